use Rattle.std.proofs.Common.{◌≡◌, ◌<◌, ◌==◌, [], ◌∷◌, ◌++◌, length, sym, ap, ◌∙◌, subst, arith, rules}
use Rattle.std.specs.Fmt.{decimal}
use Rattle.std.specs.Str.{IsAscii}
use Rattle.json.specs.Json.{array, object}
use Rattle.boss_json.specs.Compact.{text_of, IsFit}
use Rattle.boss_json.specs.Trees.{trees_in, trees_under}
use Rattle.boss_json.proofs.Ascii.{ascii_byte, ascii_comma, ascii_number}
use Rattle.boss_json.proofs.Fits.{IsFit-no_items, IsFit-no_members, IsFit-one_more_item, IsFit-one_more_member, some_text}
use Rattle.boss_json.proofs.Printed.{items_text, members_text, text_of-string, text_of-number, no_items_yet, no_members_yet, one_more_item, one_more_member, less_by_item, less_by_member, whole_array, whole_object}
use Rattle.boss_json.proofs.Trees.{tree_json-Text, tree_json-Whole}
use Rattle.boss_json.proofs.compact.Rest.+value.Goals as goal

pub value-returns-in_ok-string-in-34-clause-text : goal.value-returns-in_ok-string-in-34-clause-text
value-returns-in_ok-string-in-34-clause-text t c =
    let s = c.in_ok-string-in-34.field-0 in
    c.in_ok-string-in-34.ensures.text ∙ ap (λ l. l ++ c.string.new.self) (sym (ap text_of (tree_json-Text s) ∙ text_of-string s.now))

pub value-returns-in_ok-digits-in_default-clause-text : goal.value-returns-in_ok-digits-in_default-clause-text
value-returns-in_ok-digits-in_default-clause-text t c =
    let n = c.in_ok-digits-in_default.field-0 in
    c.in_ok-digits-in_default.ensures.text ∙ ap (λ l. l ++ c.digits.new.self) (sym (ap text_of (tree_json-Whole n) ∙ text_of-number (decimal n)))

pub value-returns-in_ok-digits-in_default-clause-ascii : goal.value-returns-in_ok-digits-in_default-clause-ascii
value-returns-in_ok-digits-in_default-clause-ascii t c =
    ascii_number c.in_ok-digits-in_default.field-0 c.args.self.now c.digits.new.self (omega arith) c.in_ok-digits-in_default.ensures.text

pub items-loop-self-init : goal.items-loop-self-init
items-loop-self-init t c = record {
  text = no_items_yet c.in-Ok.items.items c.takes.new.self c.in-Ok.ensures.items;
  fit = IsFit-no_items c.args.levels c.in-Ok.items.items (omega arith) c.in-Ok.ensures.items;
  ascii = λ rest. rest;
}

pub items-loop-self-smaller : goal.items-loop-self-smaller
items-loop-self-smaller t c =
    let item = c.in_ok-item.ensures in
    let less = less_by_item c.is_empty.result _ _ _ _ (some_text _ _ item.fit) c.if-not-takes_comma.ensures item.text in
    subst (λ old. length c.value.new.self < length old) c.loop-self-test.ensures less

pub items-loop-self-preserved : goal.items-loop-self-preserved
items-loop-self-preserved t c =
    let l = c.loop-self in
    let values = l.items.items in
    let item = c.in_ok-item.item in
    let pushed : c.push.new.self.items ≡ values ++ item ∷ [] = search rules in
    let count : l.items.len ≡ length values = omega (arith, l.items.ok.0) in
    let so_far = l.invariant.text ∙ ap (λ rest. items_text values ++ rest) (sym c.loop-self-test.ensures) in
    record {
      text = one_more_item values item _ _ _ _ _ (c.is_empty.ensures ∙ ap (λ n. n == 0) count) so_far c.if-not-takes_comma.ensures c.in_ok-item.ensures.text ∙ ap (λ vs. items_text vs ++ c.value.new.self) (sym pushed);
      fit = subst (λ vs. IsFit c.args.levels (array (trees_in vs))) (sym pushed) (IsFit-one_more_item c.args.levels values item l.invariant.fit c.in_ok-item.ensures.fit);
      ascii = λ rest. l.invariant.ascii (subst IsAscii c.loop-self-test.ensures
          (ascii_comma c.is_empty.result _ _ c.if-not-takes_comma.ensures (c.in_ok-item.ensures.ascii rest)));
    }

pub items-returns-clause-text : goal.items-returns-clause-text
items-returns-clause-text t c =
    let whole = whole_array c.loop-self.items.items _ _ _ _ c.if-not-takes.ensures c.loop-self.invariant.text c.loop-self-test.ensures in
    whole ∙ ap (λ items. text_of (array (trees_in items)) ++ c.takes-in-loop-self.new.self) (sym c.into_bump_slice.ensures)

pub items-returns-clause-ascii : goal.items-returns-clause-ascii
items-returns-clause-ascii t c = λ rest.
    ascii_byte 91 _ _ (omega arith) c.if-not-takes.ensures (c.loop-self.invariant.ascii (ascii_byte 93 _ _ (omega arith) c.loop-self-test.ensures rest))

pub members-loop-self-init : goal.members-loop-self-init
members-loop-self-init t c = record {
  text = no_members_yet c.in-Ok.members.items c.takes.new.self c.in-Ok.ensures.items;
  fit = IsFit-no_members c.args.levels c.in-Ok.members.items (omega arith) c.in-Ok.ensures.items;
  ascii = λ rest. rest;
}

pub members-loop-self-smaller : goal.members-loop-self-smaller
members-loop-self-smaller t c =
    let less = less_by_member c.is_empty.result c.in_ok-key.key.now _ _ _ _ _ _ c.if-not-takes_comma.ensures c.in_ok-key.ensures.text c.if-not-takes-2.ensures c.in_ok-value.ensures.text in
    subst (λ old. length c.value.new.self < length old) c.loop-self-test.ensures less

pub members-loop-self-preserved : goal.members-loop-self-preserved
members-loop-self-preserved t c =
    let l = c.loop-self in
    let members = l.members.items in
    let pushed : c.push.new.self.items ≡ members ++ (c.in_ok-key.key, c.in_ok-value.value) ∷ [] = search rules in
    let count : l.members.len ≡ length members = omega (arith, l.members.ok.0) in
    let so_far = l.invariant.text ∙ ap (λ rest. members_text members ++ rest) (sym c.loop-self-test.ensures) in
    record {
      text = one_more_member members (c.in_ok-key.key, c.in_ok-value.value) _ _ _ _ _ _ _ (c.is_empty.ensures ∙ ap (λ n. n == 0) count) so_far c.if-not-takes_comma.ensures c.in_ok-key.ensures.text c.if-not-takes-2.ensures c.in_ok-value.ensures.text
          ∙ ap (λ ms. members_text ms ++ c.value.new.self) (sym pushed);
      fit = subst (λ ms. IsFit c.args.levels (object (trees_under ms))) (sym pushed) (IsFit-one_more_member c.args.levels members (c.in_ok-key.key, c.in_ok-value.value) l.invariant.fit c.in_ok-value.ensures.fit);
      ascii = λ rest. l.invariant.ascii (subst IsAscii c.loop-self-test.ensures
          (ascii_comma c.is_empty.result _ _ c.if-not-takes_comma.ensures
          (c.in_ok-key.ensures.ascii (ascii_byte 58 _ _ (omega arith) c.if-not-takes-2.ensures (c.in_ok-value.ensures.ascii rest)))));
    }

pub members-returns-clause-text : goal.members-returns-clause-text
members-returns-clause-text t c =
    let whole = whole_object c.loop-self.members.items _ _ _ _ c.if-not-takes.ensures c.loop-self.invariant.text c.loop-self-test.ensures in
    whole ∙ ap (λ members. text_of (object (trees_under members)) ++ c.takes-in-loop-self.new.self) (sym c.into_bump_slice.ensures)

pub members-returns-clause-ascii : goal.members-returns-clause-ascii
members-returns-clause-ascii t c = λ rest.
    ascii_byte 123 _ _ (omega arith) c.if-not-takes.ensures (c.loop-self.invariant.ascii (ascii_byte 125 _ _ (omega arith) c.loop-self-test.ensures rest))
