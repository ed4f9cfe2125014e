-- For whoever composes calls: what stations keep over steps after which all rings are looked at, and how journals grow.
use Rattle.std.proofs.Common.{◌≡◌, ℕ, ◌||◌, Bool, false, List, length, slice_get, Some, sym, ◌∙◌, ap, subst, arith}
use Rattle.std.specs.List.{flat_map}
use Rattle.std.proofs.lemmas.List.{length-map}
use Rattle.std.proofs.lemmas.Option.{same_Some, slice_get_within}
use Rattle.cv_node.specs.Counts.{firing_count}
use Rattle.cv_link.specs.declared.items.Item.{Item}
use Rattle.cv_link.specs.Ring as ends
use Rattle.cv_link.proofs.Ends.{ends_stay, tx_self}
use Rattle.cv_station.specs.declared.station.Peer.{Peer}
use Rattle.cv_station.specs.declared.station.Station.{Station}
use Rattle.cv_station.specs.Acts.{events_in, taken_by, told_by, PeerWorks}
use Rattle.cv_mesh.specs.Keeping.{Kept, number_of}
use Rattle.cv_mesh.specs.Moving.{AllLooked, AreMeshed, Each, Goes, Grows, Looks, PeerTurns, Turns, firings_in}
use Rattle.cv_mesh.proofs.Going.{or_false, goes_as, goes_looks, looks_goes}
use Rattle.cv_mesh.proofs.Growing.{does_longer}
use Rattle.cv_mesh.proofs.Keeping.{kept_on}
use Rattle.cv_mesh.proofs.Listing.{at_place, each_as, each_back, each_then, same_sums}

-- 1. What is kept

pub steps_kept : (items : List Item) (was failed : Bool) (ss ts us : List Station) → Kept items was ss → Each (Goes failed) ss ts → Each Looks ts us → AllLooked us → Kept items (was || failed) us
steps_kept items was failed ss ts us k go looks looked =
    let all = each_then (Goes failed) Looks (Goes failed) (goes_looks failed) ss ts us go looks in
    let worse = each_as (Goes failed) (Goes (was || failed)) (λ s u g. goes_as failed (was || failed) s u (λ fine. (or_false was failed fine).1) g) ss us all in
    kept_on items was (was || failed) ss us k (λ fine. (or_false was failed fine).0) worse looked

pub kept_meshed : (items : List Item) (was : Bool) (ss : List Station) → Kept items was ss → AreMeshed ss
kept_meshed items was ss k = record {
  full = λ i s at. sym (length-map s.peers.items (λ (p : Peer). p.no)) ∙ ap length (k.peers i s at) ∙ length-map ss number_of;
  joined = k.joined;
}

-- 2. Stations stay meshed

-- where an end comes from
peer_back : (failed : Bool) (s u : Station) (go : Goes failed s u) (j : ℕ) (q : Peer) → slice_get u.peers.items j ≡ Some q → (p : Peer) × (slice_get s.peers.items j ≡ Some p) × PeerWorks go.runs.frames (flat_map (taken_by j) go.acts) (flat_map (told_by j) go.acts) p q
peer_back failed s u go j q at =
    let inside = slice_get_within u.peers.items j q at in
    let many = go.runs.as_many in
    let p = at_place s.peers.items j (omega (arith, inside, many)) in
    let now = go.runs.peers j p.0 p.1 in
    (p.0, p.1, subst (PeerWorks go.runs.frames (flat_map (taken_by j) go.acts) (flat_map (told_by j) go.acts) p.0) (same_Some now.0 q (sym now.1 ∙ at)) now.2)

pub goes_meshed : (failed : Bool) (ss us : List Station) → Each (Goes failed) ss us → AreMeshed ss → AreMeshed us
goes_meshed failed ss us go meshed = record {
  full = λ i u at.
      let s = each_back (Goes failed) ss us go i u at in
      s.2.runs.as_many ∙ meshed.full i s.0 s.1 ∙ sym go.long;
  joined = λ i j u v p q at_u at_v at_p at_q.
      let s = each_back (Goes failed) ss us go i u at_u in
      let t = each_back (Goes failed) ss us go j v at_v in
      let p' = peer_back failed s.0 u s.2 j p at_p in
      let q' = peer_back failed t.0 v t.2 i q at_q in
      ends_stay p'.0.tx p.tx q'.0.rx q.rx (meshed.joined i j s.0 t.0 p'.0 q'.0 s.1 t.1 p'.1 q'.1) p'.2.tx q'.2.rx;
}

pub looks_meshed : (ss us : List Station) → Each Looks ss us → AreMeshed ss → AreMeshed us
looks_meshed ss us looks meshed =
    goes_meshed false ss us (each_as Looks (Goes false) (looks_goes false) ss us looks) meshed

pub turns_meshed : (ss us : List Station) → Each Turns ss us → AreMeshed ss → AreMeshed us
turns_meshed ss us turns meshed = record {
  full = λ i u at.
      let s = each_back Turns ss us turns i u at in
      s.2.peers.long ∙ meshed.full i s.0 s.1 ∙ sym turns.long;
  joined = λ i j u v p q at_u at_v at_p at_q.
      let s = each_back Turns ss us turns i u at_u in
      let t = each_back Turns ss us turns j v at_v in
      let p' = each_back PeerTurns s.0.peers.items u.peers.items s.2.peers j p at_p in
      let q' = each_back PeerTurns t.0.peers.items v.peers.items t.2.peers i q at_q in
      ends_stay p'.0.tx p.tx q'.0.rx q.rx (meshed.joined i j s.0 t.0 p'.0 q'.0 s.1 t.1 p'.1 q'.1) (subst (λ x. ends.SameTx p'.0.tx x) (sym p'.2.tx) (tx_self p'.0.tx)) q'.2.rx;
}

-- 3. Journals grow

pub goes_grows : (failed : Bool) (s u : Station) → Goes failed s u → Grows s u
goes_grows failed s u go =
    let l = does_longer (flat_map events_in go.acts) s.node go.runs.frames u.node go.runs.does in
    record { based = l.based; more = l.more; appends = l.appends }

pub calm_sums : (ss us : List Station) → Each (λ s u. firing_count u.node.entries ≡ firing_count s.node.entries) ss us → firings_in us ≡ firings_in ss
calm_sums ss us calm =
    same_sums (λ (s : Station). firing_count s.node.entries) ss us calm.long calm.all
