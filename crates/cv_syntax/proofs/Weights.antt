-- How much there is of an expression, so that its printing ends.
use Rattle.std.proofs.Common.{◌≡◌, ℕ, zero, suc, ◌+◌, ◌<◌, ◌≤◌, List, [], ◌∷◌, length, map, get_or, refl, sym, ap, ◌∙◌, subst, rules, arith}
use Rattle.cv_syntax.specs.declared.tree.Factor.{Factor, fold-Factor, the_lemmas}
use Rattle.cv_syntax.specs.declared.tree.Factor.TheOpen.{Factor-F}
use Rattle.cv_syntax.specs.declared.tree.Factor.TheVariants as factors

abbrev pub total : List ℕ → ℕ
total [] = 0
total (n ∷ ns) = n + total ns

abbrev weight_step : Factor-F ℕ → ℕ
weight_step (Factor-F.Not n) = suc n
weight_step (Factor-F.Group nss) = suc (total (map total nss))
weight_step (Factor-F.Name name) = 0
weight_step (Factor-F.Match m) = 0

-- how many `~` and parentheses there are
abbrev pub weight : Factor → ℕ
weight = fold-Factor ℕ weight_step

abbrev pub term_weight : List Factor → ℕ
term_weight factors = total (map weight factors)

abbrev pub terms_weight : List (List Factor) → ℕ
terms_weight terms = total (map term_weight terms)

folded-Group : (tss : List (List Factor)) → weight (factors.Group tss) ≡ suc (total (map total (map (map weight) tss)))
folded-Group tss = search (rules, the_lemmas)

rows : (tss : List (List Factor)) → total (map total (map (map weight) tss)) ≡ terms_weight tss
rows [] = refl
rows (ts ∷ tss) = ap (λ n. term_weight ts + n) (rows tss)

pub group_weight : (tss : List (List Factor)) → weight (factors.Group tss) ≡ suc (terms_weight tss)
group_weight tss = folded-Group tss ∙ ap suc (rows tss)

item_within : {X : Type 0} (f : X → ℕ) (xs : List X) (i : ℕ) (x : X) → i < length xs → x ≡ get_or xs i x → f x ≤ total (map f xs)
item_within f [] i x l e = absurd (omega arith)
item_within f (y ∷ xs) zero x l e = subst (λ z. f z ≤ f y + total (map f xs)) (sym e) (omega arith)
item_within f (y ∷ xs) (suc i) x l e = omega (arith, item_within f xs i x (omega arith) e)

pub rest_within : {X : Type 0} (f : X → ℕ) (all : List X) (y : X) (rest : List X) (i : ℕ) (x : X) → all ≡ y ∷ rest → i < length rest → x ≡ get_or rest i x → f x ≤ total (map f all)
rest_within f all y rest i x e l g = subst (λ xs. f x ≤ total (map f xs)) (sym e) (omega (arith, item_within f rest i x l g))
