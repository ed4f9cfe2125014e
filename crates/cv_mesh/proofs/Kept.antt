-- The ends of turns, and new stations.
use Rattle.std.proofs.Common.{◌≡◌, ℕ, ◌≤◌, Bool, false, List, [], map, length, slice_get, Some, option_map, Contains, sym, ◌∙◌, ap, subst, arith}
use Rattle.std.proofs.lemmas.Option.{slice_get-map}
use Rattle.cv_protocol.specs.declared.event.Entry.{Entry}
use Rattle.cv_protocol.specs.declared.frame.Frame.{Frame}
use Rattle.cv_node.specs.Counts.{journal_length}
use Rattle.cv_node.specs.Journalled.{Journalled, IsReplay}
use Rattle.cv_merge.specs.Lanes.{Ascends}
use Rattle.cv_link.specs.declared.items.Item.{Item}
use Rattle.cv_link.specs.Plan.{PlanView, turned}
use Rattle.cv_link.specs.Ring as ends
use Rattle.cv_link.proofs.Ends.{ends_stay, tx_self}
use Rattle.cv_station.specs.declared.station.Peer.{Peer}
use Rattle.cv_station.specs.declared.station.Station.{Station}
use Rattle.cv_mesh.specs.Joining.{AreNew, IsUnused}
use Rattle.cv_mesh.specs.Keeping.{StandsSent, number_of, IsSentBySome, Planned, Kept}
use Rattle.cv_mesh.specs.Links.{came_from}
use Rattle.cv_mesh.specs.Moving.{Each, Turns, PeerTurns}
use Rattle.cv_mesh.proofs.Listing.{same_map, each_back, map_again}

-- 1. The turns end

planned_turned : (items : List Item) (from to : ℕ) (entries : List Entry) (p q : PlanView) → q ≡ turned p → Planned items from to entries p → Planned items from to entries q
planned_turned items from to entries p q same k = record {
  tellings = k.tellings;
  came = k.came;
  each = k.each;
  link = ap (λ (x : PlanView). x.items) same ∙ k.link;
  next = ap (λ (x : PlanView). x.next) same ∙ k.next;
  since = subst (λ (x : PlanView). x.since ≤ x.next) (sym same) (omega arith);
  few = k.few;
}

module _ (items : List Item) (failed : Bool) (ss us : List Station) (k : Kept items failed ss) (turns : Each Turns ss us) where
  back : (i : ℕ) (u : Station) → slice_get us i ≡ Some u → (s : Station) × (slice_get ss i ≡ Some s) × Turns s u
  back i u at = each_back Turns ss us turns i u at

  numbers : map number_of us ≡ map number_of ss
  numbers =
      same_map number_of ss us turns.long (λ i s at. let u = turns.all i s at in (u.0, u.1, ap (λ (n : Journalled). n.base.spec.no) u.2.node))

  peer_numbers : (s u : Station) → Turns s u → map (λ (p : Peer). p.no) u.peers.items ≡ map (λ (p : Peer). p.no) s.peers.items
  peer_numbers s u t =
      same_map (λ (p : Peer). p.no) s.peers.items u.peers.items t.peers.long (λ j p at. let q = t.peers.all j p at in (q.0, q.1, q.2.number))

  sent_some : (f : Frame) → IsSentBySome ss f → IsSentBySome us f
  sent_some f s =
      let u = turns.all s.place s.station s.there in
      record { place = s.place; station = u.0; there = u.1; sent = subst (λ (n : Journalled). StandsSent n f) (sym u.2.node) s.sent }

  pub turned_kept : Kept items failed us
  turned_kept = record {
    ascend = subst Ascends (sym numbers) k.ascend;
    replays = λ i u at. let s = back i u at in subst (λ (n : Journalled). IsReplay n.base n.state n.entries) (sym s.2.node) (k.replays i s.0 s.1);
    peers = λ i u at. let s = back i u at in peer_numbers s.0 u s.2 ∙ k.peers i s.0 s.1 ∙ sym numbers;
    joined = λ i j u v p q at_u at_v at_p at_q.
        let s = back i u at_u in
        let t = back j v at_v in
        let p' = each_back PeerTurns s.0.peers.items u.peers.items s.2.peers j p at_p in
        let q' = each_back PeerTurns t.0.peers.items v.peers.items t.2.peers i q at_q in
        ends_stay p'.0.tx p.tx q'.0.rx q.rx (k.joined i j s.0 t.0 p'.0 q'.0 s.1 t.1 p'.1 q'.1) (subst (λ x. ends.SameTx p'.0.tx x) (sym p'.2.tx) (tx_self p'.0.tx)) q'.2.rx;
    pushed = λ i j u p f at at_p there.
        let s = back i u at in
        let p' = each_back PeerTurns s.0.peers.items u.peers.items s.2.peers j p at_p in
        subst (λ (n : Journalled). StandsSent n f) (sym s.2.node) (k.pushed i j s.0 p'.0 f s.1 p'.1 (subst (λ x. Contains (ends.pushed x) f) p'.2.tx there));
    got = λ i u e f at there got.
        let s = back i u at in
        sent_some f (k.got i s.0 e f s.1 (subst (λ (n : Journalled). Contains n.entries e) s.2.node there) got);
    planned = λ fine i j u p at at_p.
        let s = back i u at in
        let p' = each_back PeerTurns s.0.peers.items u.peers.items s.2.peers j p at_p in
        let was : Planned items p.no (number_of s.0) s.0.node.entries (ends.plan p'.0.rx) = subst (λ (n : ℕ). Planned items n (number_of s.0) s.0.node.entries (ends.plan p'.0.rx)) (sym p'.2.number) (k.planned fine i j s.0 p'.0 s.1 p'.1) in
        subst (λ (n : Journalled). Planned items p.no n.base.spec.no n.entries (ends.plan p.rx)) (sym s.2.node) (planned_turned items p.no (number_of s.0) s.0.node.entries (ends.plan p'.0.rx) (ends.plan p.rx) p'.2.plan was);
    own = λ i u e at there.
        let s = back i u at in
        k.own i s.0 e s.1 (subst (λ (n : Journalled). Contains n.entries e) s.2.node there);
    few = λ i u at. let s = back i u at in subst (λ (n : Journalled). length n.entries ≤ journal_length) (sym s.2.node) (k.few i s.0 s.1);
  }

-- 2. New stations

no_entry : (P : Type 0) (e : Entry) → Contains [] e → P
no_entry P e c = absurd (omega (arith, c.1))

module _ (items : List Item) (given : List Journalled) (ss : List Station) (new : AreNew items given ss) (ascend : Ascends (map (λ (n : Journalled). n.base.spec.no) given)) (unused : (i : ℕ) (n : Journalled) → slice_get given i ≡ Some n → IsUnused n) where
  unused_at : (i : ℕ) (s : Station) → slice_get ss i ≡ Some s → IsUnused s.node
  unused_at i s at =
      unused i s.node (ap (λ (ns : List Journalled). slice_get ns i) (sym new.nodes) ∙ slice_get-map (λ (s : Station). s.node) ss i ∙ ap (option_map (λ (s : Station). s.node)) at)

  numbers_new : map number_of ss ≡ map (λ (n : Journalled). n.base.spec.no) given
  numbers_new =
      sym (map_again (λ (n : Journalled). n.base.spec.no) (λ (s : Station). s.node) ss) ∙ ap (map (λ (n : Journalled). n.base.spec.no)) new.nodes

  entries_new : (i : ℕ) (s : Station) → slice_get ss i ≡ Some s → s.node.entries ≡ []
  entries_new i s at = (unused_at i s at).none

  pub new_kept : Kept items false ss
  new_kept = record {
    ascend = subst Ascends (sym numbers_new) ascend;
    replays = λ i s at. subst (IsReplay s.node.base s.node.state) (sym (entries_new i s at)) (unused_at i s at).replays;
    peers = new.peers;
    joined = new.joined;
    pushed = λ i j s p f at at_p there. absurd (let none : Contains [] f = subst (λ (fs : List Frame). Contains fs f) (new.new i j s p at at_p).pushed there in omega (arith, none.1));
    got = λ i s e f at there got. no_entry _ e (subst (λ (es : List Entry). Contains es e) (entries_new i s at) there);
    planned = λ fine i j s p at at_p.
        let n = new.new i j s p at at_p in
        record {
          tellings = [];
          came = ap (came_from p.no) (entries_new i s at);
          each = λ k t is. absurd (cc);
          link = ap (λ (x : PlanView). x.items) n.plan;
          next = ap (λ (x : PlanView). x.next) n.plan;
          since = subst (λ (x : PlanView). x.since ≤ x.next) (sym n.plan) (omega arith);
          few = omega arith;
        };
    own = λ i s e at there. no_entry _ e (subst (λ (es : List Entry). Contains es e) (entries_new i s at) there);
    few = λ i s at. let none = ap length (entries_new i s at) in omega (arith, none);
  }
