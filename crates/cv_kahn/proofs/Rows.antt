-- What a row makes of its inputs, and what of that stays when they grow.
use borrow.Author.Tests.{leb-true}
use Rattle.std.proofs.Common.{◌≡◌, ℕ, zero, suc, ◌+◌, ◌≤◌, ◌<◌, nat_le, true, List, [], ◌∷◌, ◌++◌, length, take, drop, ◌⊎◌, inl, inr, refl, ap, sym, ◌∙◌, subst, arith, append_assoc}
use Rattle.std.proofs.lemmas.Bool.{and_parts}
use Rattle.std.proofs.lemmas.List.{append-nil, take-append-le}
use Rattle.cv_token.specs.declared.token.Token.{Token}
use Rattle.cv_behave.specs.KindRow.{Row, Grown, action_count, head_at, heads_of, has_counts, is_ready, needed}
use Rattle.cv_kinds.proofs.Promises.{acts_within}
use Rattle.cv_kahn.specs.Streams.{Prefix}

-- ---- prefixes

pub prefix_trans : (xs ys zs : List Token) → Prefix xs ys → Prefix ys zs → Prefix xs zs
prefix_trans xs ys zs p q = (p.0 ++ q.0, q.1 ∙ ap (λ (l : List Token). l ++ q.0) p.1 ∙ append_assoc xs p.0 q.0)

pub nothing_more : (xs : List Token) → Prefix xs xs
nothing_more xs = ([], sym (append-nil xs))

none_before : (xs rest : List Token) → [] ≡ xs ++ rest → xs ≡ []
none_before [] rest e = refl
none_before (x ∷ xs) rest e = cc

pub prefix_same : (xs ys : List Token) → Prefix xs ys → Prefix ys xs → xs ≡ ys
prefix_same [] ys p q = let whole : [] ≡ ys ++ q.0 = q.1 in let h : ys ≡ [] = none_before ys q.0 whole in sym h
prefix_same (x ∷ xs) [] p q = let bad : [] ≡ x ∷ (xs ++ p.0) = p.1 in cc
prefix_same (x ∷ xs) (y ∷ ys) p q =
    let first : y ∷ ys ≡ x ∷ (xs ++ p.0) = p.1 in
    let second : x ∷ xs ≡ y ∷ (ys ++ q.0) = q.1 in
    let here : x ≡ y = cc in
    let one : ys ≡ xs ++ p.0 = cc in
    let two : xs ≡ ys ++ q.0 = cc in
    let below : xs ≡ ys = prefix_same xs ys (p.0, one) (q.0, two) in
    cc

put_first : (x y : Token) (xs ys : List Token) → x ≡ y → Prefix xs ys ⊎ Prefix ys xs → Prefix (x ∷ xs) (y ∷ ys) ⊎ Prefix (y ∷ ys) (x ∷ xs)
put_first x y xs ys same (inl p) = inl (p.0, ap (λ (l : List Token). y ∷ l) p.1 ∙ ap (λ (z : Token). z ∷ (xs ++ p.0)) (sym same))
put_first x y xs ys same (inr q) = inr (q.0, ap (λ (l : List Token). x ∷ l) q.1 ∙ ap (λ (z : Token). z ∷ (ys ++ q.0)) same)

-- of two prefixes of one list one is a prefix of the other
pub prefix_either : (xs ys zs : List Token) → Prefix xs zs → Prefix ys zs → Prefix xs ys ⊎ Prefix ys xs
prefix_either [] ys zs p q = inl (ys, refl)
prefix_either (x ∷ xs) [] zs p q = inr (x ∷ xs, refl)
prefix_either (x ∷ xs) (y ∷ ys) [] p q = let bad : [] ≡ x ∷ (xs ++ p.0) = p.1 in cc
prefix_either (x ∷ xs) (y ∷ ys) (z ∷ zs) p q =
    let first : z ∷ zs ≡ x ∷ (xs ++ p.0) = p.1 in
    let second : z ∷ zs ≡ y ∷ (ys ++ q.0) = q.1 in
    let here : x ≡ y = cc in
    let one : zs ≡ xs ++ p.0 = cc in
    let two : zs ≡ ys ++ q.0 = cc in
    put_first x y xs ys here (prefix_either xs ys zs (p.0, one) (q.0, two))

-- ---- inputs

-- the tokens that an actor may still take from `count` inports from a number on: of what was written, those not taken
abbrev pub offers : (ℕ → List Token) → (ℕ → ℕ) → ℕ → ℕ → List (List Token)
offers written took from zero = []
offers written took from (suc count) = drop (took from) (written from) ∷ offers written took (suc from) count

-- each stream of `more` begins with that of `written`
abbrev pub Longer : (ℕ → List Token) → (ℕ → List Token) → Type 0
Longer written more = (port : ℕ) → Prefix (written port) (more port)

pub length_offers : (written : ℕ → List Token) (took : ℕ → ℕ) (from count : ℕ) → length (offers written took from count) ≡ count
length_offers written took from zero = refl
length_offers written took from (suc count) = ap suc (length_offers written took (suc from) count)

drop_more : (n : ℕ) (xs rest : List Token) → (end : List Token) × (drop n (xs ++ rest) ≡ drop n xs ++ end)
drop_more zero xs rest = (rest, refl)
drop_more (suc n) [] rest = (drop (suc n) rest, refl)
drop_more (suc n) (x ∷ xs) rest = drop_more n xs rest

-- longer streams give inputs that have grown, whatever was taken
pub grown : (written more : ℕ → List Token) (took : ℕ → ℕ) (from count : ℕ) → Longer written more → Grown (offers written took from count) (offers more took from count)
grown written more took from zero longer = tt
grown written more took from (suc count) longer =
    let p = longer from in
    let d = drop_more (took from) (written from) p.0 in
    ((d.0, ap (drop (took from)) p.1 ∙ d.1), grown written more took (suc from) count longer)

-- where the counts are there, the needed tokens are those of the inputs that have grown
pub same_heads : (row : Row) (args : List Token) (action port : ℕ) (inputs more : List (List Token)) → Grown inputs more → has_counts row args action port inputs ≡ true → heads_of row args action port more ≡ heads_of row args action port inputs
same_heads row args action port [] [] g counts = refl
same_heads row args action port [] (w ∷ ws) g counts = absurd g
same_heads row args action port (q ∷ qs) [] g counts = absurd g
same_heads row args action port (q ∷ qs) (w ∷ ws) g counts =
    let n = needed row args action port in
    let here = and_parts (nat_le n (length q)) (has_counts row args action (suc port) qs) counts in
    let enough : n ≤ length q = leb-true n (length q) here.0 in
    let same : take n w ≡ take n q = ap (take n) g.0.1 ∙ take-append-le n q g.0.0 enough in
    ap (λ x. x ++ heads_of row args action (suc port) ws) same ∙ ap (λ x. take n q ++ x) (same_heads row args action (suc port) qs ws g.1 here.1)

-- ---- what an action that is ready has

pub ready_counts : (row : Row) (args state : List Token) (action : ℕ) (inputs : List (List Token)) → is_ready row args state action inputs ≡ true → has_counts row args action 0 inputs ≡ true
ready_counts row args state action inputs ready = (and_parts _ _ ready).0

pub ready_within : (row : Row) (args state : List Token) (action : ℕ) (inputs : List (List Token)) → is_ready row args state action inputs ≡ true → action < action_count row
ready_within row args state action inputs ready = acts_within row args state action (head_at row.guard_port inputs) (and_parts _ _ ready).1

-- each inport has its count
pub counts_at : (row : Row) (args : List Token) (action : ℕ) (written : ℕ → List Token) (took : ℕ → ℕ) (from count p port : ℕ) → has_counts row args action from (offers written took from count) ≡ true → p < count → from + p ≡ port → needed row args action port ≤ length (drop (took port) (written port))
counts_at row args action written took from zero p port counts within is = absurd (omega arith)
counts_at row args action written took from (suc count) zero port counts within is =
    let here = and_parts (nat_le (needed row args action from) (length (drop (took from) (written from)))) (has_counts row args action (suc from) (offers written took (suc from) count)) counts in
    let same : from ≡ port = omega (arith, is) in
    subst (λ (i : ℕ). needed row args action i ≤ length (drop (took i) (written i))) same (leb-true _ _ here.0)
counts_at row args action written took from (suc count) (suc p) port counts within is =
    let here = and_parts (nat_le (needed row args action from) (length (drop (took from) (written from)))) (has_counts row args action (suc from) (offers written took (suc from) count)) counts in
    let less : p < count = omega arith in
    let next : suc from + p ≡ port = omega (arith, is) in
    counts_at row args action written took (suc from) count p port here.1 less next
