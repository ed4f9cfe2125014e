-- New stations are meshed, and stay so over rounds.
use Rattle.std.proofs.Common.{ℕ, ◌<◌, ◌≤◌, true, List, length, slice_set, slice_index_or, sym, ◌∙◌, ap, subst}
use Rattle.std.proofs.lemmas.List.{length-map}
use Rattle.std.proofs.lemmas.Option.{same_Some}
use Rattle.cv_node.specs.Counts.{journal_length}
use Rattle.cv_node.specs.Journalled.{Journalled}
use Rattle.cv_link.specs.declared.items.Item.{Item}
use Rattle.cv_station.specs.declared.station.Peer.{Peer}
use Rattle.cv_station.specs.declared.station.Station.{Station}
use Rattle.cv_station.specs.Acts.{Act, Round}
use Rattle.cv_mesh.specs.Joining.{AreNew}
use Rattle.cv_mesh.specs.Keeping.{number_of}
use Rattle.cv_mesh.specs.Moving.{AreMeshed, Goes}
use Rattle.cv_mesh.proofs.Composing.{goes_meshed}
use Rattle.cv_mesh.proofs.Going.{looks_goes, looks_self_station, works_of_run}
use Rattle.cv_mesh.proofs.Listing.{each_set}
use Rattle.cv_mesh.proofs.Looked.{at_or}

pub new_meshed : (items : List Item) (given : List Journalled) (ss : List Station) → AreNew items given ss → AreMeshed ss
new_meshed items given ss new = record {
  full = λ i s at. sym (length-map s.peers.items (λ (p : Peer). p.no)) ∙ ap length (new.peers i s at) ∙ length-map ss number_of;
  joined = new.joined;
}

-- a round with that quota
pub played : (s u : Station) (quota : ℕ) → (acts : List Act) × Round (record s { quota = quota }) acts u → (length s.node.entries ≤ journal_length → length u.node.entries ≤ journal_length) → Goes true s u
played s u quota work few =
    let runs = work.1.works in record {
      acts = work.0;
      runs = record {
        are_acts = runs.are_acts;
        inside = runs.inside;
        whole = λ fine. absurd (cc);
        frames = runs.frames;
        does = runs.does;
        as_many = runs.as_many;
        peers = runs.peers;
      };
      own = works_of_run work.0 work.1.own;
      few = few;
    }

goes_self : (s : Station) → Goes true s s
goes_self s = looks_goes true s s (looks_self_station s)

-- one station of them went on
pub one_played : (ss : List Station) (place : ℕ) (d y : Station) → AreMeshed ss → place < length ss → Goes true (slice_index_or ss place d) y → AreMeshed (slice_set ss place y)
one_played ss place d y meshed inside goes =
    let at = at_or ss place d inside in
    goes_meshed true ss (slice_set ss place y) (each_set (Goes true) goes_self ss place y (λ s at_s. subst (λ (x : Station). Goes true x y) (same_Some (slice_index_or ss place d) s (sym at ∙ at_s)) goes)) meshed
