-- What a table lends, and what its answers say of the map's.
use Rattle.std.proofs.Common.{◌≡◌, Option, None, Some, IsSome, is_some, refl, sym, ap, ◌∙◌, inl, inr}
use Rattle.std.specs.Borrow.{Bor, MutBor}
use Rattle.std.specs.Option.{ghost_name_of, option_map, option_copied_mut}
use borrow.Follows.Closed.{read_of}

-- a value that was lent says the same of its lender in two ways
pub same_read : {D E : Type 0} (r : Option (MutBor E)) (F G : E → D) (u v : D) → (IsSome r → (w : E) → F w ≡ G w) → (r ≡ None → u ≡ v) → read_of (ghost_name_of r) F u ≡ read_of (ghost_name_of r) G v
same_read None F G u v written unwritten i = inr (unwritten refl i)
same_read (Some x) F G u v written unwritten i = inl (x.ghost_name, λ w. written refl w i)

same_variant : {E : Type 0} (r : Option (MutBor E)) → is_some (option_copied_mut r) ≡ is_some r
same_variant None = refl
same_variant (Some x) = refl

-- what is lent is there
pub there : {E : Type 0} (r : Option (MutBor E)) {o : Option E} → option_copied_mut r ≡ o → IsSome r → IsSome o
there r is some = ap is_some (sym is) ∙ same_variant r ∙ some

-- the key of a borrowed entry
pub key_of_pair : {K X : Type 0} (r : Option (Bor K × Bor X)) → option_map (λ (e : Bor K × Bor X). e.0.now) r ≡ option_map (λ (e : K × X). e.0) (option_map (λ (e : Bor K × Bor X). (e.0.now, e.1.now)) r)
key_of_pair None = refl
key_of_pair (Some e) = refl
