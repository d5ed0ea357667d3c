use Rattle.std.proofs.Common.{◌≡◌, ℕ, List, Bool, true, false, Some, None, codes, sym, ◌∙◌, ap}
use Rattle.std.specs.Str.{IsUtf8}
use Rattle.json.specs.Json.{Json, document}
use Rattle.boss_etcd.specs.Says.{IsDone, IsRefused, IsUnclear, found_text, is_revision, revision_of, succeeded_of}

same_json : (one other : Json) → Some one ≡ Some other → one ≡ other
same_json one other same = cc

same_text : (one other : List ℕ) → Some one ≡ Some other → one ≡ other
same_text one other same = cc

no_text : (text : List ℕ) → Some text ≡ None → ⊥
no_text text same = cc

not_both : (one : Bool) → one ≡ true → one ≡ false → ⊥
not_both one is not = cc

-- what writes nothing is unclear
pub none_is_unclear : (body : List ℕ) → (IsUtf8 body → document body ≡ None) → IsUnclear body
none_is_unclear body none = record {
  no_done = λ revision done. (let there = done.is in let nothing = none done.utf8 in cc);
  no_refused = λ value revision refused. (let there = refused.is in let nothing = none refused.utf8 in cc);
}

module _ (body : List ℕ) (json : Json) (is : document body ≡ Some json) where
  of_done : (revision : List ℕ) (done : IsDone body revision) → done.json ≡ json
  of_done revision done = same_json done.json json (sym done.is ∙ is)

  of_refused : (value revision : List ℕ) (refused : IsRefused body value revision) → refused.json ≡ json
  of_refused value revision refused = same_json refused.json json (sym refused.is ∙ is)

  -- what is not told as done was not done
  not_done : (succeeded_of json ≡ Some true → ⊥) → (revision : List ℕ) → IsDone body revision → ⊥
  not_done other revision done = other (ap succeeded_of (sym (of_done revision done)) ∙ done.succeeded)

  -- what is told as anything was not refused
  not_refused : (succeeded_of json ≡ None → ⊥) → (value revision : List ℕ) → IsRefused body value revision → ⊥
  not_refused told value revision refused = told (ap succeeded_of (sym (of_refused value revision refused)) ∙ refused.not_done)

  -- what is told as not done is neither
  pub false_is_unclear : succeeded_of json ≡ Some false → IsUnclear body
  false_is_unclear told = record { no_done = not_done (λ done. cc); no_refused = not_refused (λ refused. cc) }

  -- nor is what has no revision
  pub unnumbered_is_unclear : succeeded_of json ≡ Some true → revision_of json ≡ None → IsUnclear body
  unnumbered_is_unclear told none = record {
    no_done = λ revision done. no_text revision (sym done.at ∙ ap revision_of (of_done revision done) ∙ none);
    no_refused = not_refused (λ refused. cc);
  }

  -- nor what has a revision that is no number
  pub no_number_is_unclear : (text : List ℕ) → succeeded_of json ≡ Some true → revision_of json ≡ Some text → is_revision text ≡ false → IsUnclear body
  no_number_is_unclear text told has wrong = record {
    no_done =
        λ revision done.
        not_both (is_revision revision) done.digits
        (ap is_revision (same_text revision text (sym done.at ∙ ap revision_of (of_done revision done) ∙ has)) ∙ wrong);
    no_refused = not_refused (λ refused. cc);
  }

  -- nor a refusal that tells no value
  pub valueless_is_unclear : succeeded_of json ≡ None → found_text (codes "value") json ≡ None → IsUnclear body
  valueless_is_unclear told none = record {
    no_done = not_done (λ done. cc);
    no_refused =
        λ value revision refused.
        no_text value (sym refused.found ∙ ap (found_text (codes "value")) (of_refused value revision refused) ∙ none);
  }

  -- nor one that tells no revision
  pub headless_is_unclear : succeeded_of json ≡ None → found_text (codes "mod_revision") json ≡ None → IsUnclear body
  headless_is_unclear told none = record {
    no_done = not_done (λ done. cc);
    no_refused =
        λ value revision refused.
        no_text revision (sym refused.left ∙ ap (found_text (codes "mod_revision")) (of_refused value revision refused) ∙ none);
  }

  -- nor one whose revision is no number
  pub wrong_head_is_unclear : (text : List ℕ) → succeeded_of json ≡ None → found_text (codes "mod_revision") json ≡ Some text
      → is_revision text ≡ false → IsUnclear body
  wrong_head_is_unclear text told has wrong = record {
    no_done = not_done (λ done. cc);
    no_refused =
        λ value revision refused.
        not_both (is_revision revision) refused.digits
        (ap is_revision
        (same_text revision text
        (sym refused.left ∙ ap (found_text (codes "mod_revision")) (of_refused value revision refused) ∙ has))
        ∙ wrong);
  }
