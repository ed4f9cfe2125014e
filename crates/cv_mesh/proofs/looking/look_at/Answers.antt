use Rattle.std.proofs.Common.{◌≡◌, ◌≢◌, ℕ, ◌<◌, ◌≤◌, ◌++◌, slice_get, slice_set, slice_index_or, Some, refl, subst, arith}
use Rattle.cv_mesh.specs.Moving.{IsLooked}
use Rattle.cv_mesh.proofs.Looked.{all_look, all_look_itself, at_left, at_or, at_right, ends_meet, is_looked, is_looked_itself, sets_back, sets_forth, stays_looked, stays_looked_itself}
use Rattle.cv_mesh.proofs.looking.look_at.Goals as goal

below_differs : (i j : ℕ) → i < j → i ≢ j
below_differs i j low same = absurd (omega (arith, low, same))

above_differs : (i j : ℕ) → j < i → i ≢ j
above_differs i j high same = absurd (omega (arith, high, same))

equal : (i j : ℕ) → j ≤ i → i ≤ j → i ≡ j
equal i j low high = omega arith

pub look-requires : goal.look-requires
look-requires c =
    let split = c.split_at_mut-left.ensures in
    ends_meet c.args.stations.now c.args.from c.args.to _ _ c.requires.meshed (at_left c.args.stations.now _ _ c.args.from c.index-left-from.result split.value (let long = split.front_len in omega (arith, long, c.if-from-to.true))) (at_right c.args.stations.now _ _ c.args.to c.index-right-0.result split.value split.front_len c.requires.places.1)

pub look-requires-then-to-from : goal.look-requires-then-to-from
look-requires-then-to-from c =
    let split = c.split_at_mut-left-then-to-from.ensures in
    ends_meet c.args.stations.now c.args.from c.args.to _ _ c.requires.meshed (at_right c.args.stations.now _ _ c.args.from c.index-right-0-then-to-from.result split.value split.front_len c.requires.places.0) (at_left c.args.stations.now _ _ c.args.to c.index-left-to.result split.value (let long = split.front_len in omega (arith, long, c.if-to-from.true)))

pub look_itself-requires : goal.look_itself-requires
look_itself-requires c =
    let at = at_or c.args.stations.now c.args.from c.index-stations-from.result c.requires.places.0 in
    ends_meet c.args.stations.now c.args.from c.args.from _ _ c.requires.meshed at at

pub returns-then-from-to : goal.returns-then-from-to
returns-then-from-to c =
    let ss = c.args.stations.now in
    let from = c.args.from in
    let to = c.args.to in
    let left = c.split_at_mut-left.result.0.now in
    let right = c.split_at_mut-left.result.1.now in
    let split = c.split_at_mut-left.ensures in
    let s = slice_index_or left from c.index-left-from.result in
    let t = slice_index_or right 0 c.index-right-0.result in
    let s' = c.look.new.sender in
    let t' = c.look.new.receiver in
    let us = slice_set left from s' ++ slice_set right 0 t' in
    let other = below_differs from to c.if-from-to.true in
    let at_s : slice_get ss from ≡ Some s = at_left ss left right from c.index-left-from.result split.value (let long = split.front_len in omega (arith, long, c.if-from-to.true)) in
    let at_t : slice_get ss to ≡ Some t = at_right ss left right to c.index-right-0.result split.value split.front_len c.requires.places.1 in
    let is : us ≡ slice_set (slice_set ss from s') to t' = sets_forth ss left right from to s' t' split.value split.front_len c.if-from-to.true in
    let k = c.look.ensures in
    record {
      looks = all_look ss us from to other s t s' t' at_s at_t is k;
      looked = is_looked ss us from to other s t s' t' at_s at_t is k;
      kept = stays_looked ss us from to other s t s' t' at_s at_t is k;
    }

pub returns-then-to-from : goal.returns-then-to-from
returns-then-to-from c =
    let ss = c.args.stations.now in
    let from = c.args.from in
    let to = c.args.to in
    let left = c.split_at_mut-left-then-to-from.result.0.now in
    let right = c.split_at_mut-left-then-to-from.result.1.now in
    let split = c.split_at_mut-left-then-to-from.ensures in
    let s = slice_index_or right 0 c.index-right-0-then-to-from.result in
    let t = slice_index_or left to c.index-left-to.result in
    let s' = c.look-then-to-from.new.sender in
    let t' = c.look-then-to-from.new.receiver in
    let us = slice_set left to t' ++ slice_set right 0 s' in
    let other = above_differs from to c.if-to-from.true in
    let at_s : slice_get ss from ≡ Some s = at_right ss left right from c.index-right-0-then-to-from.result split.value split.front_len c.requires.places.0 in
    let at_t : slice_get ss to ≡ Some t = at_left ss left right to c.index-left-to.result split.value (let long = split.front_len in omega (arith, long, c.if-to-from.true)) in
    let is : us ≡ slice_set (slice_set ss from s') to t' = sets_back ss left right to from t' s' split.value split.front_len c.if-to-from.true in
    let k = c.look-then-to-from.ensures in
    record {
      looks = all_look ss us from to other s t s' t' at_s at_t is k;
      looked = is_looked ss us from to other s t s' t' at_s at_t is k;
      kept = stays_looked ss us from to other s t s' t' at_s at_t is k;
    }

pub returns-else-to-from : goal.returns-else-to-from
returns-else-to-from c =
    let ss = c.args.stations.now in
    let here = c.args.from in
    let s = slice_index_or ss here c.index-stations-from.result in
    let u = c.look_itself.new.station in
    let us = slice_set ss here u in
    let at_s : slice_get ss here ≡ Some s = at_or ss here c.index-stations-from.result c.requires.places.0 in
    let k = c.look_itself.ensures in
    let same : here ≡ c.args.to = equal here c.args.to c.if-from-to.false c.if-to-from.false in
    record {
      looks = all_look_itself ss us here s u at_s refl k;
      looked = subst (λ (n : ℕ). IsLooked us here n) same (is_looked_itself ss us here s u at_s refl k);
      kept = stays_looked_itself ss us here s u at_s refl k;
    }
