-- Stations of nodes before their first entry hold what the stations of a cluster hold.
use Rattle.std.proofs.Common.{◌≡◌, ℕ, zero, suc, ◌<◌, ◌==◌, ◌&&◌, ◌||◌, nat_le, Bool, true, false, List, [], ◌∷◌, ◌++◌, map, length, slice_get, slice_index_or, Some, option_map, refl, sym, ◌∙◌, ap, subst, arith}
use Rattle.std.specs.List.{list_all}
use Rattle.std.proofs.lemmas.Bool.{eqb-true}
use Rattle.std.proofs.lemmas.Option.{slice_get-map}
use Rattle.cv_kinds.specs.Net.{Net}
use Rattle.cv_kinds.specs.WellFormed.{IsWellFormed}
use Rattle.cv_rules.specs.declared.attrs.NodeSpec.{NodeSpec}
use Rattle.cv_protocol.specs.declared.event.Journal.{Journal}
use Rattle.cv_protocol.specs.Rows.{is_node}
use Rattle.cv_node.specs.Journalled.{Journalled}
use Rattle.cv_link.specs.declared.items.Item.{Item}
use Rattle.cv_alone.specs.Resting.{run_app}
use Rattle.cv_bounds.specs.Moments.{IsStart, moment_of}
use Rattle.cv_bounds.proofs.Pausing.{empty_is_start, opened_is_start}
use Rattle.cv_merge.specs.Lanes.{Ascends}
use Rattle.cv_station.specs.declared.station.Station.{Station}
use Rattle.cv_mesh.specs.Joining.{AreNew, IsUnused}
use Rattle.cv_mesh.specs.Keeping.{Kept, number_of}
use Rattle.cv_mesh.proofs.Kept.{new_kept}
use Rattle.cv_mesh.proofs.Listing.{contains_at, contains_map, map_again, mapped_at}
use Rattle.cv_cluster.specs.Cluster.{node_number}
use Rattle.cv_cluster.specs.Holding.{Holds, node_of, spec_of}
use Rattle.cv_cluster.specs.Opening.{AllAmong, AllAreForNodes, AllUnused, is_among, is_for_node, new_node, opened_as, opened_node}
use Rattle.cv_cluster.proofs.Lists.{all_as, all_at, read_at}

-- 1. Numbers of nodes

first_two : (a b c : Bool) → (a && (b && c)) ≡ true → (a && b) ≡ true
first_two true true c is = refl
first_two true false c is = is
first_two false b c is = is

spec_node : (spec : NodeSpec) → is_for_node spec ≡ true → is_node spec.no ≡ true
spec_node spec is =
    first_two (nat_le 1 spec.no) (nat_le spec.no 64) (nat_le 1 spec.window && nat_le spec.window 64) is

and_both : (a b : Bool) → (a && b) ≡ true → (a ≡ true) × (b ≡ true)
and_both true b is = (refl, is)
and_both false b is = absurd (cc)

among_node : (ss : List Station) (number : ℕ) → list_all is_for_node (map spec_of ss) ≡ true → is_among (map node_number (map node_of ss)) number ≡ true → is_node number ≡ true
among_node [] number fit is = absurd (cc)
among_node (s ∷ ss) number fit is =
    let split = and_both (is_for_node (spec_of s)) (list_all is_for_node (map spec_of ss)) fit in
    by_test (number_of s == number) refl is split.0 (λ later. among_node ss number split.1 later)
  where
    by_test : (b : Bool) → (number_of s == number) ≡ b → (b || is_among (map node_number (map node_of ss)) number) ≡ true → is_for_node (spec_of s) ≡ true → (is_among (map node_number (map node_of ss)) number ≡ true → is_node number ≡ true) → is_node number ≡ true
    by_test true same is first rest =
        subst (λ (n : ℕ). is_node n ≡ true) (eqb-true (number_of s) number same) (spec_node (spec_of s) first)
    by_test false same is first rest = rest is

pub places_fit : (at : List ℕ) (ss : List Station) → AllAreForNodes (map spec_of ss) → AllAmong at (map node_of ss) → list_all is_node at ≡ true
places_fit at ss fit among =
    all_as (is_among (map node_number (map node_of ss))) is_node at (λ number is. among_node ss number fit is) among

-- 2. Nodes before their first entry

map_back : {X : Type 0} (f : X → X) (xs : List X) → ((x : X) → f x ≡ x) → map f xs ≡ xs
map_back f [] same = refl
map_back f (x ∷ xs) same = ap (λ y. y ∷ map f xs) (same x) ∙ ap (λ ys. x ∷ ys) (map_back f xs same)

module _ (made : NodeSpec → Journalled) (spec_made : (spec : NodeSpec) → (made spec).base.spec ≡ spec) (unused_made : (spec : NodeSpec) → IsUnused (made spec)) (start_made : (spec : NodeSpec) → IsStart (made spec).base) (items : List Item) (specs : List NodeSpec) (ss : List Station) (new : AreNew items (map made specs) ss) (ascend : Ascends (map (λ (s : NodeSpec). s.no) specs)) (fit : AllAreForNodes specs) where
  specs_made : map (λ (n : Journalled). n.base.spec) (map made specs) ≡ specs
  specs_made =
      map_again (λ (n : Journalled). n.base.spec) made specs ∙ map_back (λ (s : NodeSpec). (made s).base.spec) specs spec_made

  specs_back : map spec_of ss ≡ specs
  specs_back =
      sym (map_again (λ (n : Journalled). n.base.spec) node_of ss) ∙ ap (map (λ (n : Journalled). n.base.spec)) new.nodes ∙ specs_made

  ascend_made : Ascends (map (λ (n : Journalled). n.base.spec.no) (map made specs))
  ascend_made =
      subst Ascends (sym (ap (map (λ (s : NodeSpec). s.no)) specs_made) ∙ map_again (λ (s : NodeSpec). s.no) (λ (n : Journalled). n.base.spec) (map made specs)) ascend

  unused_at : (i : ℕ) (n : Journalled) → slice_get (map made specs) i ≡ Some n → IsUnused n
  unused_at i n at = let m = mapped_at made specs i n at in subst IsUnused m.2 (unused_made m.0)

  kept_new : Kept items false ss
  kept_new = new_kept items (map made specs) ss new ascend_made unused_at

  kept_was : (was : Bool) → Kept items was ss
  kept_was was = record {
    ascend = kept_new.ascend;
    replays = kept_new.replays;
    peers = kept_new.peers;
    joined = kept_new.joined;
    pushed = kept_new.pushed;
    got = kept_new.got;
    planned = λ fine. kept_new.planned refl;
    own = kept_new.own;
    few = kept_new.few;
  }

  -- the node of a station is one that was made
  made_at : (i : ℕ) (s : Station) → slice_get ss i ≡ Some s → (spec : NodeSpec) × (made spec ≡ s.node)
  made_at i s at =
      let there : slice_get (map made specs) i ≡ Some s.node = ap (λ (ns : List Journalled). slice_get ns i) (sym new.nodes) ∙ slice_get-map (λ (x : Station). x.node) ss i ∙ ap (option_map (λ (x : Station). x.node)) at in
      let m = mapped_at made specs i s.node there in
      (m.0, m.2)

  none_at : (i : ℕ) (s : Station) → slice_get ss i ≡ Some s → s.node.entries ≡ []
  none_at i s at = let m = made_at i s at in (subst IsUnused m.1 (unused_made m.0)).none

  pub made_holds : (was : Bool) → Holds items was ss
  made_holds was = record {
    kept = kept_was was;
    fit = subst AllAreForNodes (sym specs_back) fit;
    started = λ i s at. let m = made_at i s at in subst (λ (n : Journalled). IsStart n.base) m.1 (start_made m.0);
    early = λ i s first at_first at. let none = ap (moment_of 0) (none_at i s at) in omega (arith, none);
    together = λ i j s u at_s at_u. ap (moment_of 0) (none_at i s at_s ∙ sym (none_at j u at_u));
  }

pub new_holds : (items : List Item) (specs : List NodeSpec) (ss : List Station) → AreNew items (map new_node specs) ss → Ascends (map (λ (s : NodeSpec). s.no) specs) → AllAreForNodes specs → Holds items false ss
new_holds items specs ss new ascend fit =
    made_holds new_node (λ spec. refl) (λ spec. record { none = refl; replays = record { replays = refl } }) empty_is_start items specs ss new ascend fit false

pub opened_holds : (net : Net) (at : List ℕ) (items : List Item) (was : Bool) (ss us : List Station) → IsWellFormed net → Holds items was ss → AreNew items (map (opened_as net at) (map spec_of ss)) us → Holds items was us
opened_holds net at items was ss us formed holds new =
    let ascend : Ascends (map (λ (s : NodeSpec). s.no) (map spec_of ss)) = subst Ascends (sym (map_again (λ (s : NodeSpec). s.no) spec_of ss)) holds.kept.ascend in
    made_holds (opened_as net at) (λ spec. refl) (λ spec. record { none = refl; replays = record { replays = refl } }) (λ spec. opened_is_start spec run_app net at formed) items (map spec_of ss) us new ascend holds.fit was

pub opened_nodes : (net : Net) (at : List ℕ) (ss : List Station) → map (opened_as net at) (map spec_of ss) ≡ map (opened_node net at) (map node_of ss)
opened_nodes net at ss =
    map_again (opened_as net at) spec_of ss ∙ sym (map_again (opened_node net at) node_of ss)

-- new nodes are unused
pub new_unused : (specs : List NodeSpec) → AllUnused (map new_node specs)
new_unused [] n c = absurd (omega (arith, c.1))
new_unused (s ∷ specs) n (zero, h, e) = subst (λ (m : Journalled). m ≡ new_node m.base.spec) e refl
new_unused (s ∷ specs) n (suc k, h, e) = new_unused specs n (k, omega (arith, h), e)

-- the specification of a station is one that a node can open by
pub spec_at : (ss : List Station) (i : ℕ) (s : Station) → i < length ss → s ≡ slice_index_or ss i s → AllAreForNodes (map spec_of ss) → is_for_node (spec_of s) ≡ true
spec_at ss i s inside here fit =
    all_at is_for_node (map spec_of ss) fit (spec_of s) (contains_map spec_of ss s (contains_at ss i s (read_at ss i s inside here)))

-- 3. Journals of stations

pub record Told (ss : List Station) (js : List Journal) : Type 0 where
  pub entries : map (λ (j : Journal). j.entries.items) js ≡ map (λ (n : Journalled). n.entries) (map node_of ss)
  pub specs : map (λ (j : Journal). j.spec) js ≡ map (λ (n : Journalled). n.base.spec) (map node_of ss)

map_more : {X Y : Type 0} (f : X → Y) (xs : List X) (x : X) → map f (xs ++ x ∷ []) ≡ map f xs ++ f x ∷ []
map_more f [] x = refl
map_more f (y ∷ xs) x = ap (λ ys. f y ∷ ys) (map_more f xs x)

-- what is told of one more
told_next : {W X Y Z : Type 0} (f : X → Z) (g : Y → Z) (h : W → Y) (xs : List X) (ws : List W) (x : X) (w : W) → map f xs ≡ map g (map h ws) → f x ≡ g (h w) → map f (xs ++ x ∷ []) ≡ map g (map h (ws ++ w ∷ []))
told_next f g h xs ws x w told same =
    map_more f xs x ∙ ap (λ zs. zs ++ f x ∷ []) told ∙ ap (λ z. map g (map h ws) ++ z ∷ []) same ∙ sym (ap (map g) (map_more h ws w) ∙ map_more g (map h ws) (h w))

pub told_more : (ss : List Station) (js : List Journal) (s : Station) (j : Journal) → Told ss js → j.entries.items ≡ s.node.entries → j.spec ≡ s.node.base.spec → Told (ss ++ s ∷ []) (js ++ j ∷ [])
told_more ss js s j told entries spec = record {
  entries = told_next (λ (j : Journal). j.entries.items) (λ (n : Journalled). n.entries) node_of js ss j s told.entries entries;
  specs = told_next (λ (j : Journal). j.spec) (λ (n : Journalled). n.base.spec) node_of js ss j s told.specs spec;
}
