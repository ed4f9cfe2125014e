-- `PairsOf` as a type that may hold the type that holds it.
use mathlib.Core.Path.{◌≡◌, refl, sym, ap, subst}
use mathlib.Core.Former.{Former, this, const, pair, list, via, children}
use Prim.Native.Nat.{ℕ}
use Rattle.std.specs.Prelude.{List, [], ◌∷◌, map}
use Rattle.std.specs.Ordering.{nat_cmp}
use Rattle.std.specs.Cmp.Lexicographic.{slice_cmp}
use Rattle.std.specs.List.Sorted.{IsStrictlySortedBy-prop}
use base.Stored.{code_map, gcons, coded_list, coded_ℕ}
use denote.RattleType.{RattleType}
use denote.HoleLaws.{Alike}
use denote.HolePlaces.{Recodes, struct_places, laid}
use denote.Hole.Carrier.{listed}
use denote.Hole.Fix.{over}
use denote.Param.Weighed.{Weighed, w_list, w_via, w_pair, w_const}
use denote.Model.Placed.{view_places}
use Rattle.sqlite_items.specs.formers.items.Items as items
use Rattle.cv_token.specs.Rising.{keys, Rise}
use Rattle.cv_token.specs.declared.pairs.Pair.{Pair}
use Rattle.cv_token.specs.contracts.pairs.Pair as P
use Rattle.cv_token.specs.declared.pairs.PairsOf.TheInside.{Inside}
use Rattle.cv_token.specs.declared.pairs.PairsOf.TheView.{view, invariant}
use Rattle.cv_token.specs.contracts.pairs.PairsOf as C
use Rattle.cv_token.specs.contracts.pairs.PairsOf.TheInside as I

-- a key beside one of g's values
abbrev entry : Former {0} → Former {0}
entry g = via (pair (const (List ℕ)) g) (λ X. Pair (g.Of X)) (λ X p. (p.key, p.value)) (λ X v. record { key = v.0; value = v.1 }) (λ X p. refl) (λ X v. refl)

abbrev pub the_former : Former {0} → Former {0}
the_former g = list (entry g)

abbrev pub the_weighed : {g : Former {0}} → Weighed g → Weighed (the_former g)
the_weighed {g} w = w_list {f = entry g} (w_via {f = pair (const (List ℕ)) g} (w_pair (w_const (List ℕ)) w) (λ X. Pair (g.Of X)) (λ X p. (p.key, p.value)) (λ X v. record { key = v.0; value = v.1 }) (λ X p. refl) (λ X v. refl))

abbrev pub the_empty : List (Pair ⊥)
the_empty = []

abbrev pub the_items : (X : Type 0) → List (Pair X) → List X
the_items X [] = []
the_items X (p ∷ ps) = p.value ∷ the_items X ps

pub the_items_listed : (X : Type 0) (d : List (Pair X)) → listed _ (children (the_former this) X d) ≡ the_items X d
the_items_listed X [] = refl
the_items_listed X (p ∷ ps) = ap (λ l. p.value ∷ l) (the_items_listed X ps)

-- the pair, with h applied to its value
abbrev pub on_value : {X Y : Type 0} → (X → Y) → Pair X → Pair Y
on_value h p = record { key = p.key; value = h p.value }

pub keys_on_values : {X Y : Type 0} (h : X → Y) (ps : List (Pair X)) → keys (map (on_value h) ps) ≡ keys ps
keys_on_values h [] = refl
keys_on_values h (p ∷ ps) = ap (λ l. p.key ∷ l) (keys_on_values h ps)

abbrev fields : Former {0}
fields = via (the_former this) Inside (λ X a. a.pairs) (λ X v. record { pairs = v }) (λ X a. refl) (λ X v. refl)

module _ (R S : RattleType) (h : R.Denot → S.Denot) where
  pair_places : Alike R S h → Alike (P.the_row R) (P.the_row S) (on_value h)
  pair_places a = struct_places (P.the_type R) (P.the_type S) ((λ k. k), (h, tt)) (on_value h) (λ d. refl) refl ((refl, (λ k. refl, λ k. refl)), (laid _ _ _ a, tt))

  pub the_places : Alike R S h → Alike (C.the_row R) (C.the_row S) ((the_former this).map R.Denot S.Denot h)
  the_places a = view_places fields (the_former this) view (λ X Y k u. refl) (λ X u. refl) R.Denot S.Denot h (C.the_row R).coded (C.the_row S).coded
      (invariant R.Denot) (invariant S.Denot) (λ u. IsStrictlySortedBy-prop (slice_cmp nat_cmp) (keys u.pairs)) (λ u. IsStrictlySortedBy-prop (slice_cmp nat_cmp) (keys u.pairs))
      (λ u. subst Rise (sym (keys_on_values h u.pairs))) (λ u. subst Rise (keys_on_values h u.pairs)) (over (I.the_row R)) (over (I.the_row S))
      (struct_places (I.the_type R) (I.the_type S) (map (on_value h), tt) _ (λ d. refl) refl (laid _ _ _ (items.the_places (P.the_row R) (P.the_row S) (on_value h) (pair_places a)), tt))

  pub the_codes_placed : Recodes R S h → Recodes (C.the_row R) (C.the_row S) ((the_former this).map R.Denot S.Denot h)
  the_codes_placed e d = sym (code_map (λ x. gcons ((coded_list coded_ℕ).code x.key) (R.coded.code x.value)) (λ x. gcons ((coded_list coded_ℕ).code x.key) (S.coded.code x.value)) (on_value h) (λ x i. gcons ((coded_list coded_ℕ).code x.key) (sym (e x.value) i)) d)
