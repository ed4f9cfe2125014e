-- The firings of a record are those of all journals.
use Rattle.std.proofs.Common.{◌≡◌, ℕ, zero, suc, ◌+◌, ◌<◌, false, ◌==◌, cond, List, [], ◌∷◌, map, Contains, refl, sym, ap, ◌∙◌, subst, arith}
use Rattle.std.specs.List.{count_by, sum_by}
use Rattle.std.proofs.lemmas.Bool.Decides.{nat_tests}
use Rattle.std.proofs.lemmas.List.Sums.{sum_by-cons}
use Rattle.cv_protocol.specs.declared.event.Entry.{Entry}
use Rattle.cv_protocol.specs.declared.event.Step.{Step}
use Rattle.cv_protocol.specs.Journals.{entry_of, entries_of}
use Rattle.cv_node.specs.Counts.{firing_count, is_firing}
use Rattle.cv_node.specs.Journalled.{Journalled}
use Rattle.cv_merge.specs.Lanes.{AllAbove, Ascends}
use Rattle.cv_merge.proofs.Sorting.{own_is, other_is}
use Rattle.cv_cluster.specs.Cluster.{firings_of, node_number}
use Rattle.cv_spread.proofs.Ranges.{contains_first, contains_later}

-- 1. Sums over numbers of which one counts more

all_nothing : (is : List ℕ) → sum_by (λ (i : ℕ). 0) is ≡ 0
all_nothing [] = refl
all_nothing (i ∷ is) = sum_by-cons (λ (i : ℕ). 0) i is ∙ omega (arith, all_nothing is)

-- the same but for one number, that none of these is
same_above : (f g : ℕ → ℕ) (k : ℕ) (is : List ℕ) → ((i : ℕ) → k < i → f i ≡ g i) → AllAbove k is → sum_by f is ≡ sum_by g is
same_above f g k [] same all = refl
same_above f g k (i ∷ is) same all =
    let here = same i all.0 in
    let rest = same_above f g k is same all.1 in
    omega (arith, here, rest, sum_by-cons f i is, sum_by-cons g i is)

above_all : (k i : ℕ) (is : List ℕ) → AllAbove i is → Contains is k → i < k
above_all k i [] all c = absurd (omega (arith, c.1))
above_all k i (j ∷ is) all (zero, h, e) = omega (arith, all.0, e)
above_all k i (j ∷ is) all (suc n, h, e) = above_all k i is all.1 (n, omega (arith, h), e)

-- one of the numbers counts so much more
one_more : (f g : ℕ → ℕ) (k more : ℕ) (is : List ℕ) → f k ≡ more + g k → ((i : ℕ) → (k == i) ≡ false → f i ≡ g i) → Ascends is → Contains is k → sum_by f is ≡ more + sum_by g is
one_more f g k more [] own other rises c = absurd (omega (arith, c.1))
one_more f g k more (i ∷ is) own other rises (zero, h, e) =
    let here : f i ≡ more + g i = subst (λ (j : ℕ). f j ≡ more + g j) (sym e) own in
    let rest = same_above f g i is (λ j low. other j (grind (arith, nat_tests, e, low))) rises.0 in
    omega (arith, here, rest, sum_by-cons f i is, sum_by-cons g i is)
one_more f g k more (i ∷ is) own other rises (suc n, h, e) =
    let there : Contains is k = (n, omega (arith, h), e) in
    let low : i < k = above_all k i is rises.0 there in
    let here = other i (grind (arith, nat_tests, low)) in
    let rest = one_more f g k more is own other rises.1 there in
    omega (arith, here, rest, sum_by-cons f i is, sum_by-cons g i is)

-- 2. Step by step

-- how many of the steps are firings
abbrev pub firing_steps : List Step → ℕ
firing_steps steps = count_by (λ (s : Step). is_firing s.event) steps

abbrev counts : Entry → ℕ
counts e = cond (is_firing e.event) 1 0

abbrev firings_at : List Step → ℕ → ℕ
firings_at m i = firing_count (entries_of i m)

own_more : (s : Step) (m : List Step) → firings_at (s ∷ m) s.node ≡ counts (entry_of s) + firings_at m s.node
own_more s m =
    ap firing_count (own_is s m s.node refl) ∙ sum_by-cons counts (entry_of s) (entries_of s.node m)

pub firings_by_number : (is : List ℕ) (m : List Step) → Ascends is → ((s : Step) → Contains m s → Contains is s.node) → sum_by (firings_at m) is ≡ firing_steps m
firings_by_number is [] rises among = all_nothing is
firings_by_number is (s ∷ m) rises among =
    let rest = firings_by_number is m rises (λ t c. among t (contains_later s m t c)) in
    let more = one_more (firings_at (s ∷ m)) (firings_at m) s.node (counts (entry_of s)) is (own_more s m) (λ i other. ap firing_count (other_is s m i other)) rises (among s (contains_first s m)) in
    omega (arith, rest, more, sum_by-cons (λ (t : Step). cond (is_firing t.event) 1 0) s m)

-- 3. Node by node

pub firings_by_node : (count : ℕ → ℕ) (ns : List Journalled) → ((n : Journalled) → Contains ns n → count (node_number n) ≡ firing_count n.entries) → sum_by count (map node_number ns) ≡ firings_of ns
firings_by_node count [] same = refl
firings_by_node count (n ∷ ns) same =
    let here = same n (contains_first n ns) in
    let rest = firings_by_node count ns (λ k c. same k (contains_later n ns k c)) in
    omega (arith, here, rest, sum_by-cons count (node_number n) (map node_number ns), sum_by-cons (λ (k : Journalled). firing_count k.entries) n ns)
