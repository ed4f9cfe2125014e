-- Room for an entry is made at each node ahead of a Tick: all that the stations kept they keep.
use Rattle.std.proofs.Common.{◌≡◌, ℕ, ◌<◌, ◌≤◌, Bool, false, List, [], ◌∷◌, ◌++◌, map, length, slice_get, slice_index_or, slice_set, Some, Contains, refl, sym, ◌∙◌, ap, subst, arith, append-nil}
use Rattle.std.proofs.lemmas.Option.{same_Some}
use Rattle.cv_protocol.specs.declared.event.Entry.{Entry}
use Rattle.cv_protocol.specs.declared.event.Event.TheVariants as event
use Rattle.cv_protocol.specs.declared.frame.Frame.{Frame}
use Rattle.cv_protocol.specs.Journals.{Sends, replay}
use Rattle.cv_protocol.specs.NodeRow.{cause_of, row}
use Rattle.cv_protocol.specs.NodeState.{NodeState}
use Rattle.cv_state.specs.Steps.{LeadsTo}
use Rattle.cv_node.specs.Counts.{firing_count, journal_length}
use Rattle.cv_node.specs.Journalled.{Journalled, IsReplay, entry_of_row}
use Rattle.cv_merge.specs.Lanes.{Ascends}
use Rattle.cv_link.specs.declared.items.Item.{Item}
use Rattle.cv_link.specs.Ring as ends
use Rattle.cv_station.specs.declared.station.Peer.{Peer}
use Rattle.cv_station.specs.declared.station.Station.{Station}
use Rattle.cv_bounds.specs.Moments.{moment_of}
use Rattle.cv_mesh.specs.Keeping.{IsSentBySome, Kept, Planned, StandsSent, number_of}
use Rattle.cv_mesh.specs.Moving.{AreMeshed, Each, Grows}
use Rattle.cv_mesh.specs.Passed.{PassedEach}
use Rattle.cv_mesh.proofs.Composing.{calm_sums}
use Rattle.cv_mesh.proofs.Listing.{at_place, each_as, each_back, each_set, each_then, same_map}
use Rattle.cv_settle.specs.Settling.{StaysAtMoment}
use Rattle.cv_cluster.specs.Holding.{IsNear, node_of}
use Rattle.cv_cluster.specs.Rounds.{Advances}
use Rattle.cv_cluster.specs.Ticking.{AllReady, AllTake, IsAsBefore, IsReady, IsUnchanged, MakesRoom, MayMakeRoom, StationTicks}
use Rattle.cv_cluster.proofs.Early.{early_on, together_on}
use Rattle.cv_cluster.proofs.Lists.{each_map, read_at}

-- 1. One station

pub makes_self : (s : Station) → MayMakeRoom s s
makes_self s = record { node = record { based = refl; state = refl; entries = refl }; peers = refl }

pub makes_then : (s t u : Station) → MayMakeRoom s t → MayMakeRoom t u → MayMakeRoom s u
makes_then s t u first second = record {
  node = record {
    based = second.node.based ∙ first.node.based;
    state = second.node.state ∙ first.node.state;
    entries = second.node.entries ∙ first.node.entries;
  };
  peers = second.peers ∙ first.peers;
}

-- where one station of the list made room
pub makes_set : (old now : List Station) (k : ℕ) (s u : Station) → Each MayMakeRoom old now → k < length old → s ≡ slice_index_or now k s → MayMakeRoom s u → Each MayMakeRoom old (slice_set now k u)
makes_set old now k s u before inside here makes =
    let at = read_at now k s (let l = before.long in omega (arith, inside, l)) here in
    each_then MayMakeRoom MayMakeRoom MayMakeRoom makes_then old now (slice_set now k u) before (each_set MayMakeRoom makes_self now k u (λ x is. subst (λ (z : Station). MayMakeRoom z u) (same_Some s x (sym at ∙ is)) makes))

grows_makes : (s u : Station) → MayMakeRoom s u → Grows s u
grows_makes s u makes = record { based = makes.node.based; more = []; appends = makes.node.entries ∙ sym (append-nil s.node.entries) }

stays_makes : (s u : Station) → MayMakeRoom s u → StaysAtMoment s u
stays_makes s u makes = record { same = λ now. ap (moment_of now) makes.node.entries }

-- the Tick that a station gets after it
pub makes_ticks : (t : ℕ) (s r u : Station) → MakesRoom s r → StationTicks t r u → StationTicks t s u
makes_ticks t s r u makes ticks =
    let same = makes.makes.node in
    record {
      sent = ticks.sent;
      does = subst (λ (x : NodeState). LeadsTo (row x (event.Tick t)) u.node.state ticks.sent) same.state ticks.does;
      appends = ticks.appends ∙ ap (λ (es : List Entry). es ++ entry_of_row r.node.state (event.Tick t) ∷ []) same.entries ∙ ap (λ (x : NodeState). s.node.entries ++ entry_of_row x (event.Tick t) ∷ []) same.state;
      based = ticks.based ∙ same.based;
    }

stands : (n m : Journalled) (f : Frame) → IsUnchanged n m → StandsSent n f → StandsSent m f
stands n m f same by = record {
  before = by.before;
  entry = by.entry;
  after = by.after;
  stands = same.entries ∙ by.stands;
  stamped = by.stamped;
  sends = subst (λ (b : NodeState). Sends b by.before by.entry f) (sym same.based) by.sends;
  from = by.from ∙ ap (λ (b : NodeState). b.spec.no) (sym same.based);
}

replays_on : (n m : Journalled) → IsUnchanged n m → IsReplay n.base n.state n.entries → IsReplay m.base m.state m.entries
replays_on n m same run = record {
  replays = ap (λ (b : NodeState). replay b m.entries) same.based ∙ ap (replay n.base) same.entries ∙ run.replays ∙ ap Some (sym same.state);
}

-- 2. All stations

module _ (items : List Item) (failed : Bool) (ss us : List Station) (k : Kept items failed ss) (makes : Each MayMakeRoom ss us) where
  back : (i : ℕ) (u : Station) → slice_get us i ≡ Some u → (s : Station) × (slice_get ss i ≡ Some s) × MayMakeRoom s u
  back i u at = each_back MayMakeRoom ss us makes i u at

  numbers : map number_of us ≡ map number_of ss
  numbers =
      same_map number_of ss us makes.long (λ i s at. let u = makes.all i s at in (u.0, u.1, ap (λ (b : NodeState). b.spec.no) u.2.node.based))

  peer_at : (s u : Station) (j : ℕ) (p : Peer) → MayMakeRoom s u → slice_get u.peers.items j ≡ Some p → slice_get s.peers.items j ≡ Some p
  peer_at s u j p m at = ap (λ v. slice_get v.items j) (sym m.peers) ∙ at

  sent_some : (f : Frame) → IsSentBySome ss f → IsSentBySome us f
  sent_some f s =
      let u = makes.all s.place s.station s.there in
      record { place = s.place; station = u.0; there = u.1; sent = stands s.station.node u.0.node f u.2.node s.sent }

  pub made_kept : Kept items failed us
  made_kept = record {
    ascend = subst Ascends (sym numbers) k.ascend;
    replays = λ i u at. let s = back i u at in replays_on s.0.node u.node s.2.node (k.replays i s.0 s.1);
    peers = λ i u at. let s = back i u at in ap (λ v. map (λ (p : Peer). p.no) v.items) s.2.peers ∙ k.peers i s.0 s.1 ∙ sym numbers;
    joined = λ i j u v p q at_u at_v at_p at_q.
        let s = back i u at_u in
        let t = back j v at_v in
        k.joined i j s.0 t.0 p q s.1 t.1 (peer_at s.0 u j p s.2 at_p) (peer_at t.0 v i q t.2 at_q);
    pushed = λ i j u p f at at_p there.
        let s = back i u at in
        stands s.0.node u.node f s.2.node (k.pushed i j s.0 p f s.1 (peer_at s.0 u j p s.2 at_p) there);
    got = λ i u e f at there got.
        let s = back i u at in
        sent_some f (k.got i s.0 e f s.1 (subst (λ (es : List Entry). Contains es e) s.2.node.entries there) got);
    planned = λ fine i j u p at at_p.
        let s = back i u at in
        let was = k.planned fine i j s.0 p s.1 (peer_at s.0 u j p s.2 at_p) in
        subst (λ (es : List Entry). Planned items p.no (number_of u) es (ends.plan p.rx)) (sym s.2.node.entries) (subst (λ (b : NodeState). Planned items p.no b.spec.no s.0.node.entries (ends.plan p.rx)) (sym s.2.node.based) was);
    own = λ i u e at there.
        let s = back i u at in
        k.own i s.0 e s.1 (subst (λ (es : List Entry). Contains es e) s.2.node.entries there);
    few = λ i u at. let s = back i u at in subst (λ (es : List Entry). length es ≤ journal_length) (sym s.2.node.entries) (k.few i s.0 s.1);
  }

pub made_meshed : (ss us : List Station) → Each MayMakeRoom ss us → AreMeshed ss → AreMeshed us
made_meshed ss us makes meshed = record {
  full = λ i u at. let s = each_back MayMakeRoom ss us makes i u at in ap (λ v. length v.items) s.2.peers ∙ meshed.full i s.0 s.1 ∙ sym makes.long;
  joined = λ i j u v p q at_u at_v at_p at_q.
      let s = each_back MayMakeRoom ss us makes i u at_u in
      let t = each_back MayMakeRoom ss us makes j v at_v in
      meshed.joined i j s.0 t.0 p q s.1 t.1 (ap (λ x. slice_get x.items j) (sym s.2.peers) ∙ at_p) (ap (λ x. slice_get x.items i) (sym t.2.peers) ∙ at_q);
}

pub made_near : (t : ℕ) (ss us : List Station) → Each MayMakeRoom ss us → IsNear ss t → IsNear us t
made_near t ss us makes near first at =
    let s = each_back MayMakeRoom ss us makes 0 first at in
    let low = near s.0 s.1 in
    let same = ap length s.2.node.entries in
    omega (arith, low, same)

-- then it goes on as it went on from there
pub made_advances : (ss ts us : List Station) → Each MayMakeRoom ss ts → Advances false 0 ts us → Advances false 0 ss us
made_advances ss ts us makes advances items was kept =
    let a = advances items was (made_kept items was ss ts kept makes) in
    let grows = each_as MayMakeRoom Grows grows_makes ss ts makes in
    let stays = each_as MayMakeRoom StaysAtMoment stays_makes ss ts makes in
    let calm = calm_sums ss ts (each_as MayMakeRoom (λ s u. firing_count u.node.entries ≡ firing_count s.node.entries) (λ s u m. ap firing_count m.node.entries) ss ts makes) in
    let count = a.count in
    record {
      kept = a.kept;
      grows = each_then MayMakeRoom Grows Grows (λ s t u m g. record { based = g.based ∙ m.node.based; more = g.more; appends = g.appends ∙ ap (λ (es : List Entry). es ++ g.more) m.node.entries }) ss ts us makes a.grows;
      count = omega (arith, count, calm);
      early = λ early. a.early (early_on ss ts grows stays early);
      together = λ together. a.together (together_on ss ts stays together);
    }

-- 3. Before the Tick

pub made_ready : (t : ℕ) (ss us : List Station) → Each MakesRoom ss us → AllTake t ss → AllReady t us
made_ready t ss us makes take i u at =
    let s = each_back MakesRoom ss us makes i u at in
    record {
      takes = ap (λ (x : NodeState). cause_of x (event.Tick t)) s.2.makes.node.state ∙ take i s.0 s.1;
      room = s.2.room;
    }

-- a station that was not passed yet is as ready as it was
pub still_ready : (R : Station → Station → Type 0) (t : ℕ) (old now : List Station) (k : ℕ) (s : Station) → AllReady t old → PassedEach R old k now → k < length old → s ≡ slice_index_or now k s → IsReady t s
still_ready R t old now k s ready passed inside here =
    let x = at_place old k inside in
    let at = read_at now k s (let l = passed.long in omega (arith, inside, l)) here in
    subst (IsReady t) (same_Some x.0 s (sym (passed.after k x.0 x.1 (omega arith)) ∙ at)) (ready k x.0 x.1)

pub made_before : (items : List Item) (failed : Bool) (ss us : List Station) → Each MayMakeRoom ss us → IsAsBefore (record { items = items; nodes = map node_of ss; failed = failed }) (record { items = items; nodes = map node_of us; failed = failed })
made_before items failed ss us makes = record {
  items = refl;
  failed = refl;
  nodes = each_map node_of MayMakeRoom IsUnchanged (λ s u m. m.node) ss us makes;
}
