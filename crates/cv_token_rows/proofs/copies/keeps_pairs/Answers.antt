-- One key alone rises.
use Rattle.std.proofs.Common.{[], ◌∷◌, ◌++◌, pos, refl, sym, subst}
use Rattle.cv_token.specs.declared.pairs.Pair.{Pair}
use Rattle.cv_token.specs.declared.token.Token.{Token}
use Rattle.cv_token.specs.declared.token.Token.TheVariants.{Int}
use Rattle.cv_token.specs.Rising.{AreRising}
use Rattle.cv_token.proofs.Rises.{AreRising-from_test}
use Rattle.cv_token_rows.proofs.copies.keeps_pairs.Goals as goal

pub push-requires : goal.push-requires
push-requires g c =
    let p : Pair Token = record { key = c.from_string-key.result; value = Int (pos 1) } in
    subst (λ ps. AreRising (ps ++ p ∷ [])) (sym c.new-pairs.ensures) (AreRising-from_test (p ∷ []) refl)
