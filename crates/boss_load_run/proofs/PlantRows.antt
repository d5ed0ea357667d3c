-- The catalogue's file of the load spells the plant, computed.
use Rattle.std.proofs.Common.{◌≡◌, ◌≢◌, ℕ, List, refl, ap, sym, ◌∙◌, Ok, Err}
use Rattle.std.specs.Fmt.{digits}
use Rattle.std.specs.Float.Numeral.{scan_numeral}
use Rattle.std.specs.Str.{is_utf8, chars}
use Rattle.toml.specs.Parse.{parse_document, after_element, atom, expression, header_key, items, key_equals, line, lines, members, skip_bom, val}
use Rattle.toml.specs.Tables.{along_dots, along_header, at_key, define}
use Rattle.toml_parser.specs.Lexical.{skip_from, skip_ws}
use Rattle.toml_parser.specs.Numbers.{decimal_number, number, plain_number, prefixed_integer, underscore_fits, unquoted, word_len, word_value}
use Rattle.toml_parser.specs.Strings.{body, escape, escape_char, hex_escape, key_after, one_line, quoted, simple_key, special}
use Rattle.boss_load.specs.Day.{load_catalogue, point_text}
use Rattle.boss_points.specs.declared.CatalogueRefusal.{CatalogueRefusal}
use Rattle.boss_points.specs.declared.CatalogueRefusal.TheVariants as refusals
use Rattle.boss_points.specs.Given.{Refused}
use Rattle.boss_points.specs.Reading.{catalogue_of}
use Rattle.boss_load_run.specs.Plant.{plant}

pub catalogue_is_read : catalogue_of load_catalogue ≡ Ok plant
unfolding catalogue_of load_catalogue point_text is_utf8 chars digits scan_numeral parse_document after_element atom expression header_key items key_equals line lines members skip_bom val along_dots along_header at_key define skip_from skip_ws decimal_number number plain_number prefixed_integer underscore_fits unquoted word_len word_value body escape escape_char hex_escape key_after one_line quoted simple_key special lib.Utf8.encode
catalogue_is_read = refl

-- so no test of a catalogue refuses it
pub is_not_refused : (file : List ℕ) (refusal : CatalogueRefusal) → file ≡ load_catalogue → refusal ≢ refusals.NoMemory → ¬ Refused refusal (catalogue_of file)
is_not_refused file refusal is other = by refusal other
  where
    read : catalogue_of file ≡ Ok plant
    read = ap catalogue_of is ∙ catalogue_is_read

    never : (why : CatalogueRefusal) → catalogue_of file ≡ Err why → ⊥
    never why refused = let clash : Ok plant ≡ Err why = sym read ∙ refused in absurd cc

    by : (why : CatalogueRefusal) → why ≢ refusals.NoMemory → Refused why (catalogue_of file) → ⊥
    by refusals.NoMemory known refused = known refl
    by (refusals.TooLong length) known refused = never (refusals.TooLong length) refused
    by refusals.NotToml known refused = never refusals.NotToml refused
    by (refusals.Missing key) known refused = never (refusals.Missing key) refused
    by (refusals.TooMany count) known refused = never (refusals.TooMany count) refused
    by (refusals.BadDriver place) known refused = never (refusals.BadDriver place) refused
    by (refusals.BadName place) known refused = never (refusals.BadName place) refused
    by (refusals.SameName place) known refused = never (refusals.SameName place) refused
    by (refusals.BadKind place) known refused = never (refusals.BadKind place) refused
    by (refusals.BadDefault place) known refused = never (refusals.BadDefault place) refused
    by (refusals.UnknownDriver place) known refused = never (refusals.UnknownDriver place) refused
    by (refusals.BadTimes place) known refused = never (refusals.BadTimes place) refused
