-- The journals of the nodes of a cluster, by the numbers of the nodes.
use Rattle.std.proofs.Common.{◌≡◌, ◌⊎◌, inl, inr, ℕ, zero, suc, ◌<◌, Bool, true, false, ◌==◌, if◌then◌else◌, List, [], ◌∷◌, ◌++◌, map, Contains, Ok, Err, Result, IfOk, refl, sym, ap, ◌∙◌, subst, arith}
use Rattle.std.specs.declared.alloc.AllocError.{AllocError}
use Rattle.std.proofs.lemmas.Bool.{eqb-true, eq-eqb}
use Rattle.std.proofs.lemmas.Bool.Decides.{nat_tests}
use Rattle.std.proofs.lemmas.List.Elements.{Contains-append_right}
use Rattle.cv_rules.specs.declared.attrs.NodeSpec.{NodeSpec}
use Rattle.cv_protocol.specs.declared.event.Entry.{Entry}
use Rattle.cv_protocol.specs.declared.event.Journal.{Journal}
use Rattle.cv_protocol.specs.declared.event.Step.{Step}
use Rattle.cv_protocol.specs.declared.event.Record.{Record}
use Rattle.cv_protocol.specs.Journals.{entry_of, own_entry, entries_of, IsRecordOf}
use Rattle.cv_node.specs.Journalled.{Journalled}
use Rattle.cv_merge.specs.Lanes as lanes
use Rattle.cv_merge.specs.Lanes.{AllAbove, Ascends}
use Rattle.cv_merge.proofs.Sorting.{own_is}
use Rattle.cv_mesh.proofs.Listing.{map_again}
use Rattle.cv_cluster.specs.Cluster.{ClusterView, IsHonest, node_number}
use Rattle.cv_spread.specs.Clusters.{IsRecordFor, journals_of, lane_of, spec_of}
use Rattle.cv_spread.proofs.Ranges.{contains_first, contains_later}

-- 1. The journals that a cluster hands out

abbrev entries_in : Journalled → List Entry
entries_in n = n.entries

pub same_lanes : (js : List Journal) (ns : List Journalled) → map (λ (j : Journal). j.entries.items) js ≡ map entries_in ns → map (λ (j : Journal). j.spec) js ≡ map spec_of ns → map lanes.lane_of js ≡ map lane_of ns
same_lanes [] [] entries specs = refl
same_lanes [] (n ∷ ns) entries specs = absurd (cc)
same_lanes (j ∷ js) [] entries specs = absurd (cc)
same_lanes (j ∷ js) (n ∷ ns) entries specs =
    let entry : j.entries.items ≡ n.entries = cc in
    let spec : j.spec ≡ n.base.spec = cc in
    let others : map (λ (j : Journal). j.entries.items) js ≡ map entries_in ns = cc in
    let behind : map (λ (j : Journal). j.spec) js ≡ map spec_of ns = cc in
    let rest = same_lanes js ns others behind in
    λ z. record { node = (spec z).no; entries = entry z } ∷ rest z

pub same_numbers : (js : List Journal) (ns : List Journalled) → map (λ (j : Journal). j.spec) js ≡ map spec_of ns → map (λ (j : Journal). j.spec.no) js ≡ map node_number ns
same_numbers js ns specs =
    sym (map_again (λ (s : NodeSpec). s.no) (λ (j : Journal). j.spec) js)
    ∙ ap (map (λ (s : NodeSpec). s.no)) specs
    ∙ map_again (λ (s : NodeSpec). s.no) spec_of ns

-- the record of these journals is that of the cluster
pub recorded : (c : ClusterView) (js : List Journal) (r : Result Record AllocError) → IsHonest c → map (λ (j : Journal). j.entries.items) js ≡ map entries_in c.nodes → map (λ (j : Journal). j.spec) js ≡ map spec_of c.nodes → IfOk r (λ m. m.specs ≡ map (λ (j : Journal). j.spec) js) → IfOk r (λ m. IsRecordOf (lanes.journal_at js) m.entries) → IfOk r (λ m. IsRecordFor c m)
recorded c js (Ok m) honest entries specs told is = record {
  honest = honest;
  specs = told ∙ specs;
  entries = subst (λ (ls : List lanes.Lane). IsRecordOf (lanes.entries_at ls) m.entries) (same_lanes js c.nodes entries specs) is;
}
recorded c js (Err e) honest entries specs told is = tt

-- 2. Who has a number

-- the node of that number, whose entries these are
pub record Holder (ns : List Journalled) (i : ℕ) (es : List Entry) : Type 0 where
  pub node : Journalled
  pub there : Contains ns node
  pub number : node_number node ≡ i
  pub entries : es ≡ node.entries

-- these are the entries of the node of that number, or there is none
abbrev Held : List Journalled → ℕ → List Entry → Type 0
Held ns i es = Holder ns i es ⊎ (es ≡ [])

first_held : (own : Bool) (n : Journalled) (ns : List Journalled) (i : ℕ) → (own ≡ true → node_number n ≡ i) → Held ns i (journals_of ns i) → Held (n ∷ ns) i (if own then n.entries else journals_of ns i)
first_held true n ns i own later = inl (record { node = n; there = contains_first n ns; number = own refl; entries = refl })
first_held false n ns i own (inl h) = inl (record { node = h.node; there = contains_later n ns h.node h.there; number = h.number; entries = h.entries })
first_held false n ns i own (inr none) = inr none

pub held : (ns : List Journalled) (i : ℕ) → Held ns i (journals_of ns i)
held [] i = inr refl
held (n ∷ ns) i = first_held (node_number n == i) n ns i (eqb-true (node_number n) i) (held ns i)

-- 3. The journal of a node

pub above : (k : ℕ) (ns : List Journalled) (n : Journalled) → AllAbove k (map node_number ns) → Contains ns n → k < node_number n
above k [] n all c = absurd (omega (arith, c.1))
above k (m ∷ ns) n all (zero, h, e) = subst (λ (x : Journalled). k < node_number x) e all.0
above k (m ∷ ns) n all (suc j, h, e) = above k ns n all.1 (j, omega (arith, h), e)

not_equal : (k i : ℕ) → k < i → (k == i) ≡ false
not_equal k i low = grind (arith, nat_tests)

pub own_journal : (ns : List Journalled) (n : Journalled) → Ascends (map node_number ns) → Contains ns n → journals_of ns (node_number n) ≡ n.entries
own_journal [] n rises c = absurd (omega (arith, c.1))
own_journal (m ∷ ns) n rises (zero, h, e) =
    subst (λ (x : Journalled). journals_of (m ∷ ns) (node_number x) ≡ x.entries) e (ap (λ (b : Bool). if b then m.entries else journals_of ns (node_number m)) (eq-eqb (node_number m) (node_number m) refl))
own_journal (m ∷ ns) n rises (suc j, h, e) =
    let there : Contains ns n = (j, omega (arith, h), e) in
    ap (λ (b : Bool). if b then m.entries else journals_of ns (node_number n)) (not_equal (node_number m) (node_number n) (above (node_number m) ns n rises.0 there)) ∙ own_journal ns n rises.1 there

-- 4. A step of the record stands in the journal of its node

pub step_there : (m : List Step) (s : Step) → Contains m s → Contains (entries_of s.node m) (entry_of s)
step_there [] s c = absurd (omega (arith, c.1))
step_there (t ∷ m) s (zero, h, e) =
    subst (λ (x : Step). Contains (entries_of x.node (t ∷ m)) (entry_of x)) e (subst (λ (es : List Entry). Contains es (entry_of t)) (sym (own_is t m t.node refl)) (contains_first (entry_of t) (entries_of t.node m)))
step_there (t ∷ m) s (suc j, h, e) =
    Contains-append_right (own_entry s.node t) (entries_of s.node m) (entry_of s) (step_there m s (j, omega (arith, h), e))

-- one that stands behind others
pub stands_in : {X : Type 0} (xs before after : List X) (x : X) → xs ≡ before ++ x ∷ after → Contains xs x
stands_in {X = X} xs before after x is =
    subst (λ (ys : List X). Contains ys x) (sym is) (Contains-append_right before (x ∷ after) x (contains_first x after))
