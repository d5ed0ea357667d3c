-- A doubt of one point passes over all the others.
use Rattle.std.proofs.Common.{◌≡◌, ℕ, ◌<◌, Bool, true, false, cond, length, sym, ◌∙◌, ap, arith}
use Rattle.std.proofs.lemmas.Grind.{common_steps}
use Rattle.boss_model.specs.Devices.{proxy_of, is_settled, is_doubted, doubted}
use Rattle.boss_model.specs.declared.state.Proxy.{Proxy}
use Rattle.boss_marks.specs.Marks.{Marks, wanted, doubted_at}
use Rattle.boss_marks.proofs.Rounds.{turned-one}

other-doubted : (point k : ℕ) (proxy : Proxy) → (k ≡ point → ⊥) → is_doubted point (k, proxy) ≡ false
other-doubted point k proxy other = grind (arith, common_steps)

own-doubted : (point : ℕ) (proxy : Proxy) → is_doubted point (point, proxy) ≡ is_settled proxy.mark
own-doubted point proxy = grind (arith, common_steps)

module _ (point : ℕ) (differs : Bool) (marks : Marks) (known : point < length marks.proxies) where
  own-turn : cond (is_settled (proxy_of marks.proxies point).mark) (wanted point (doubted differs (0, proxy_of marks.proxies point)) marks) marks ≡ doubted_at point differs marks
  own-turn =
      ap (λ b. cond b (wanted point (doubted differs (0, proxy_of marks.proxies point)) marks) marks) (sym (own-doubted point (proxy_of marks.proxies point)))
      ∙ turned-one (is_doubted point) (doubted differs) point marks known (λ k within other. other-doubted point k (proxy_of marks.proxies k) other)

  pub settled-doubted : true ≡ is_settled (proxy_of marks.proxies point).mark → wanted point (doubted differs (0, proxy_of marks.proxies point)) marks ≡ doubted_at point differs marks
  settled-doubted settled = ap (λ b. cond b (wanted point (doubted differs (0, proxy_of marks.proxies point)) marks) marks) settled ∙ own-turn

  pub other-stays : false ≡ is_settled (proxy_of marks.proxies point).mark → marks ≡ doubted_at point differs marks
  other-stays other = ap (λ b. cond b (wanted point (doubted differs (0, proxy_of marks.proxies point)) marks) marks) other ∙ own-turn
