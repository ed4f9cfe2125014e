-- The laws of formats in which each value has one spelling.
use Rattle.std.proofs.Common.{◌≡◌, Bool, true, false, cond, Option, Some, None, option_and_then, refl, sym, ap, ◌∙◌, subst}
use Rattle.cv_token.specs.Spells.{Spells, compared}

-- Read, write again, compare: it is enough that a loose reader reads each valid spelling, and finds valid values alone.
module _ {V B : Type 0} (Valid : V → Type 0) (spell : V → B) (same : B → B → Bool) (tells : (a b : B) → same a b ≡ true → a ≡ b) (alike : (a : B) → same a a ≡ true) where
  one : (b : B) (v : V) (r : Bool) → same (spell v) b ≡ r → Valid v → ((u : V) → Valid u → b ≡ spell u → u ≡ v) → Spells Valid spell b (cond r (Some v) None)
  one b v true e valid only = (valid, sym (tells (spell v) b e))
  one b v false e valid only = λ u k is.
      let again : same (spell v) b ≡ true = subst (λ x. same x b ≡ true) (is ∙ ap spell (only u k is)) (alike b)
      in cc

  at : (b : B) (o : Option V) → ((v : V) → o ≡ Some v → Valid v) → ((v : V) → Valid v → b ≡ spell v → o ≡ Some v) → Spells Valid spell b (compared same spell b o)
  at b None found reads = λ v k is. let e = reads v k is in cc
  at b (Some v) found reads = one b v (same (spell v) b) refl (found v refl) (λ u k is. let e = reads u k is in cc)

  pub Spells-compared : (read : B → Option V) → ((b : B) (v : V) → read b ≡ Some v → Valid v) → ((v : V) → Valid v → read (spell v) ≡ Some v) → (b : B) → Spells Valid spell b (compared same spell b (read b))
  Spells-compared read found reads b = at b (read b) (found b) (λ v k is. ap read is ∙ reads v k)

-- Two formats one above the other: what b spells is read as an inner value, and that as an outer one.
module _ {V T B : Type 0} (Outer : V → Type 0) (encode : V → T) (Inner : T → Type 0) (spell : T → B) (one_spelling : (s t : T) → Inner s → Inner t → spell s ≡ spell t → s ≡ t) (within : (v : V) → Outer v → Inner (encode v)) where
  outer : (b : B) (t : T) (o : Option V) → Inner t → b ≡ spell t → Spells Outer encode t o → Spells Outer (λ v. spell (encode v)) b o
  outer b t None inner is none = λ v k e. none v k (one_spelling t (encode v) inner (within v k) (sym is ∙ e))
  outer b t (Some v) inner is found = (found.0, is ∙ ap spell found.1)

  pub Spells-then : (b : B) (o : Option T) (decode : T → Option V) → Spells Inner spell b o → ((t : T) → Spells Outer encode t (decode t)) → Spells Outer (λ v. spell (encode v)) b (option_and_then decode o)
  Spells-then b None decode h decodes = λ v k. h (encode v) (within v k)
  Spells-then b (Some t) decode h decodes = outer b t (decode t) h.0 h.1 (decodes t)

-- Where b is some value's spelling, that value is answered; where another is answered, b is not this one's.
pub value-Spells : {V B : Type 0} → (Valid : V → Type 0) (spell : V → B) (one_spelling : (u v : V) → Valid u → Valid v → spell u ≡ spell v → u ≡ v) (b : B) (o : Option V) (v : V) → Spells Valid spell b o → Valid v → b ≡ spell v → o ≡ Some v
value-Spells Valid spell one_spelling b None v h k is = absurd (h v k is)
value-Spells Valid spell one_spelling b (Some u) v h k is = ap Some (one_spelling u v h.0 k (sym h.1 ∙ is))
