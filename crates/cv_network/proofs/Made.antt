-- A network out of its parts.
use Rattle.std.proofs.Common.{◌≡◌, ◌↔◌, List, Option, Some, None, Result, Ok, Err, IfOk, IfSome, IsSome, MatchOption, sym, ap, ◌∙◌, subst}
use Rattle.cv_token.specs.declared.token.Token.{Token}
use Rattle.cv_token.specs.declared.token.Token.TheVariants as tree
use Rattle.cv_behave.specs.Values.{list_of}
use Rattle.cv_behave.proofs.Lists.{list_of_List}
use Rattle.cv_kinds.specs.Net.{Net}
use Rattle.cv_kinds.specs.WellFormed.{IsWellFormed}

pub one_list : (xs ys : List Token) → tree.List xs ≡ tree.List ys → xs ≡ ys
one_list xs ys e = let same : Some xs ≡ Some ys = sym (list_of_List xs) ∙ ap list_of e ∙ list_of_List ys in cc

pub known : {X : Type 0} (P : X → Type 0) (o : Option X) (x : X) → o ≡ Some x → MatchOption o ⊥ P → P x
known P None x e h = absurd h
known P (Some y) x e h = let same : y ≡ x = cc in subst P same h

pub unknown : {X : Type 0} (P : X → Type 0) (o : Option X) → o ≡ None → MatchOption o ⊥ P → ⊥
unknown P None e h = h
unknown P (Some y) e h = cc

pub made_is : {E : Type 0} (r : Result (Option Net) E) (net built : Net) → built ≡ net → IsWellFormed net → IfOk r (λ o. IfSome o (λ n. n ≡ built)) → IfOk r (λ o. IsSome o ↔ IsWellFormed built) → IfOk r (λ o. o ≡ Some net)
made_is (Err e) net built same whole made exact = tt
made_is (Ok None) net built same whole made exact = let none : IsSome {T = Net} None = exact.1 (subst IsWellFormed (sym same) whole) in absurd (cc)
made_is (Ok (Some n)) net built same whole made exact = ap Some (made ∙ same)
