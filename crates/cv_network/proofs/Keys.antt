-- The two keys of a network rise.
use Rattle.std.proofs.Common.{◌≡◌, List, [], ◌∷◌, ◌++◌, codes, refl, sym, subst}
use Rattle.cv_token.specs.declared.pairs.Pair.{Pair}
use Rattle.cv_token.specs.declared.token.Token.{Token}
use Rattle.cv_token.specs.declared.token.Token.TheVariants as token
use Rattle.cv_token.specs.Rising.{Rise, AreRising}
use Rattle.cv_token.proofs.Rises.{AreRising-from_test}

pub one_rises : (ps : List (Pair Token)) (p : Pair Token) → ps ≡ [] → AreRising (ps ++ p ∷ [])
one_rises ps p e = subst (λ xs. AreRising (xs ++ p ∷ [])) (sym e) (AreRising-from_test (p ∷ []) refl)

keys_rise : Rise (codes "actors" ∷ codes "connections" ∷ [])
keys_rise = AreRising-from_test {X = Token} (record { key = codes "actors"; value = token.Null } ∷ record { key = codes "connections"; value = token.Null } ∷ []) refl

pub two_rise : (ps : List (Pair Token)) (p q : Pair Token) → ps ≡ p ∷ [] → p.key ≡ codes "actors" → q.key ≡ codes "connections" → AreRising (ps ++ q ∷ [])
two_rise ps p q e first second =
    subst (λ xs. AreRising (xs ++ q ∷ [])) (sym e)
    (subst (λ k. Rise (p.key ∷ k ∷ [])) (sym second) (subst (λ k. Rise (k ∷ codes "connections" ∷ [])) (sym first) keys_rise))
