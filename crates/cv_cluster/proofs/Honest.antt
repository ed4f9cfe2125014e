-- What the stations keep, in the words of the nodes alone.
use Rattle.std.proofs.Common.{◌≡◌, ℕ, Bool, false, List, map, length, ◌≤◌, slice_get, Some, option_map, Contains, sym, ◌∙◌, ap, subst}
use Rattle.std.proofs.lemmas.Option.{slice_get-map}
use Rattle.cv_protocol.specs.declared.event.Entry.{Entry}
use Rattle.cv_protocol.specs.declared.frame.Frame.{Frame}
use Rattle.cv_protocol.specs.Journals.{got_frame}
use Rattle.cv_node.specs.Counts.{journal_length}
use Rattle.cv_node.specs.Journalled.{Journalled, IsReplay}
use Rattle.cv_merge.specs.Lanes.{Ascends}
use Rattle.cv_link.specs.declared.items.Item.{Item}
use Rattle.cv_station.specs.declared.station.Peer.{Peer}
use Rattle.cv_station.specs.declared.station.Station.{Station}
use Rattle.cv_cluster.specs.Cluster.{IsHonest, WasSent, node_number}
use Rattle.cv_mesh.specs.Keeping.{number_of, Kept}
use Rattle.cv_mesh.specs.Links.{LinkKept}
use Rattle.cv_mesh.proofs.Listing.{contains_at, contains_map, map_again, mapped_at, place_of}

module _ (items : List Item) (failed : Bool) (ss : List Station) (k : Kept items failed ss) where
  abbrev pub nodes : List Journalled
  nodes = map (λ (s : Station). s.node) ss

  -- the station of a node
  record Of (n : Journalled) : Type 0 where
    place : ℕ
    station : Station
    at : slice_get ss place ≡ Some station
    node : station.node ≡ n

  of : (n : Journalled) → Contains nodes n → Of n
  of n c =
      let p = place_of nodes n c in
      let s = mapped_at (λ (s : Station). s.node) ss p.0 n p.1 in
      record { place = p.0; station = s.0; at = s.1; node = s.2 }

  sent_by : (n : Journalled) (e : Entry) (f : Frame) → Contains nodes n → Contains n.entries e → got_frame e.event ≡ Some f → WasSent nodes f
  sent_by n e f c there got =
      let s = of n c in
      let by = k.got s.place s.station e f s.at (subst (λ (m : Journalled). Contains m.entries e) (sym s.node) there) got in
      record { sender = by.station.node; there = contains_map (λ (s : Station). s.node) ss by.station (contains_at ss by.place by.station by.there); sent = by.sent }

  link_kept : failed ≡ false → (to from : Journalled) → Contains nodes to → Contains nodes from → LinkKept items (node_number from) (node_number to) to.entries
  link_kept fine to from there here =
      let t = of to there in
      let f = of from here in
      -- the number of the sender stands at its place among the numbers of the receiver's peers
      let at : slice_get (map (λ (p : Peer). p.no) t.station.peers.items) f.place ≡ Some (node_number from) =
      ap (λ (ns : List ℕ). slice_get ns f.place) (k.peers t.place t.station t.at)
      ∙ slice_get-map number_of ss f.place
      ∙ ap (option_map number_of) f.at
      ∙ ap (λ (n : Journalled). Some (node_number n)) f.node in
      let p = mapped_at (λ (p : Peer). p.no) t.station.peers.items f.place (node_number from) at in
      let planned = k.planned fine t.place f.place t.station p.0 t.at p.1 in
      let kept : LinkKept items p.0.no (number_of t.station) t.station.node.entries = record { tellings = planned.tellings; came = planned.came; each = planned.each } in
      subst (λ (n : Journalled). LinkKept items (node_number from) (node_number n) n.entries) t.node
      (subst (λ (n : ℕ). LinkKept items n (number_of t.station) t.station.node.entries) p.2 kept)

  pub kept_honest : IsHonest (record { items = items; nodes = nodes; failed = failed })
  kept_honest = record {
    ascend = subst Ascends (sym (map_again node_number (λ (s : Station). s.node) ss)) k.ascend;
    local = λ n c. let s = of n c in subst (λ (m : Journalled). IsReplay m.base m.state m.entries) s.node (k.replays s.place s.station s.at);
    own = λ n e c there. let s = of n c in k.own s.place s.station e s.at (subst (λ (m : Journalled). Contains m.entries e) (sym s.node) there);
    sent = sent_by;
    few = λ n c. let s = of n c in subst (λ (m : Journalled). length m.entries ≤ journal_length) s.node (k.few s.place s.station s.at);
    links = link_kept;
  }
