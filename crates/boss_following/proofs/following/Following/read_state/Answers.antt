use Rattle.std.proofs.Common.{◌≡◌, ℕ, List, refl, ap, ◌∙◌, subst}
use Rattle.std.specs.Prelude.{IfErr, IfOk}
use Rattle.boss_following.specs.Items.{NoState}
use Rattle.boss_model.specs.Seen.{seen}
use Rattle.boss_snapshot.specs.Spells.{SpellsState}
use Rattle.boss_following.proofs.following.Following.read_state.Goals as goal

pub returns : goal.returns
returns c =
    let bytes : c.deref.result.now ≡ c.args.self.now.state.items = c.deref.ensures.value ∙ ap (λ v. v.items) c.replace-bytes.ensures.value in
    record {
      is = subst (λ (b : List ℕ). IfOk c.state_of.result (λ kept. SpellsState 2 (seen kept) b)) bytes c.state_of.ensures.is;
      wrong = subst (λ (b : List ℕ). IfErr c.state_of.result (λ why. NoState b why)) bytes c.state_of.ensures.wrong;
      place = refl;
    }
