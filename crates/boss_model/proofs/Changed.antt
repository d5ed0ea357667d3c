-- Proxies of which those that pass a test are changed.
use Rattle.std.proofs.Common.{◌≡◌, ℕ, Bool, List, length, ◌∙◌}
use Rattle.std.specs.Prelude.{if◌then◌else◌}
use Rattle.std.specs.List.{enumerate_from}
use Rattle.std.proofs.lemmas.List.{length-map}
use Rattle.std.proofs.lemmas.List.FromFn.{length-enumerate_from}
use Rattle.boss_model.specs.declared.state.Proxy.{Proxy}
use Rattle.boss_model.specs.Settle.{changed_if}

module _ (test : ℕ × Proxy → Bool) (change : ℕ × Proxy → Proxy) where
  -- what a proxy is then, by its place
  abbrev pub change_at : ℕ × Proxy → Proxy
  change_at place = if test place then change place else place.1

  -- there are as many
  pub length-changed_if : (proxies : List Proxy) → length (changed_if test change proxies) ≡ length proxies
  length-changed_if proxies = length-map (enumerate_from 0 proxies) change_at ∙ length-enumerate_from 0 proxies
