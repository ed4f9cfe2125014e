-- One chain more.
use Rattle.std.proofs.Common.{◌≡◌, ℕ, ◌+◌, ◌++◌, refl, add-one}
use Rattle.std.specs.Fmt.{decimal}
use Rattle.cv_top.specs.Generated.{chain, generated_script}

pub generated_more : (i : ℕ) → generated_script (i + 1) ≡ generated_script i ++ chain (decimal (i + 1))
generated_more i = rw add-one refl
