-- What the scan tells of the journal that it finds.
use Rattle.std.proofs.Common.{◌≡◌, inl, inr, ℕ, ◌+◌, ◌<◌, ◌≤◌, List, ◌∷◌, ◌++◌, length, drop, slice_index_or, slice_set, Option, Some, None, ap, sym, ◌∙◌, subst, arith, length-append, IfSome}
use Rattle.std.proofs.Math.Seq.{set-append_seam, get_or-append_seam}
use Rattle.std.proofs.lemmas.List.{drop_all}
use Rattle.cv_protocol.specs.declared.event.Entry.{Entry}
use Rattle.cv_protocol.specs.declared.event.Step.{Step}
use Rattle.cv_protocol.specs.Journals.{entry_of}
use Rattle.cv_merge.specs.Choice.{least_from}
use Rattle.cv_merge.specs.Lanes.{Lane, Ascends, numbers, NothingLeft, TakesLeast}
use Rattle.cv_merge.proofs.Parts.{rest_of}
use Rattle.cv_merge.proofs.Scan.{Cut, Found, AllFrom, AllAboveStamp, least_is}
use Rattle.cv_merge.proofs.Steps.{takes}

left_by : (lanes : List Lane) (r : Option (ℕ × ℕ)) → Found lanes 0 None r → None ≡ r → NothingLeft lanes
left_by lanes r (inl h) none = h.1
left_by lanes r (inr h) none = absurd (cc)

-- nothing is left where the scan finds nothing
pub nothing_left : (lanes : List Lane) → None ≡ least_from None 0 lanes → NothingLeft lanes
nothing_left lanes none = left_by lanes _ (least_is lanes 0 None) none

cut_by : (lanes : List Lane) (x : ℕ × ℕ) (r : Option (ℕ × ℕ)) → Found lanes 0 None r → Some x ≡ r → Cut lanes 0 x
cut_by lanes x r (inl h) found = absurd (cc)
cut_by lanes x r (inr h) found =
    let same : h.0 ≡ x = cc in subst (λ (y : ℕ × ℕ). Cut lanes 0 y) same h.1

pub cut : (lanes : List Lane) (x : ℕ × ℕ) → Some x ≡ least_from None 0 lanes → Cut lanes 0 x
cut lanes x found = cut_by lanes x _ (least_is lanes 0 None) found

place_is : (lanes : List Lane) (x : ℕ × ℕ) (c : Cut lanes 0 x) → x.0 ≡ length c.before
place_is lanes x c = let is : x.0 ≡ 0 + length c.before = ap (λ (y : ℕ × ℕ). y.0) c.at in omega (arith, is)

-- the place stands in the list
pub within : (lanes : List Lane) (x : ℕ × ℕ) → Cut lanes 0 x → x.0 < length lanes
within lanes x c =
    let place = place_is lanes x c in
    let long : length lanes ≡ length (c.before ++ c.lane ∷ c.after) = ap length c.stands in
    omega (arith, place, long, length-append c.before (c.lane ∷ c.after))

pub all_within : (lanes : List Lane) (r : Option (ℕ × ℕ)) → r ≡ least_from None 0 lanes → IfSome r (λ x. x.0 < length lanes)
all_within lanes None is = record {}
all_within lanes (Some x) is = within lanes x (cut lanes x is)

-- a scan that came to the end
pub scanned : (lanes : List Lane) (place : ℕ) (best : Option (ℕ × ℕ)) → least_from best place (drop place lanes) ≡ least_from None 0 lanes → length lanes ≤ place → best ≡ least_from None 0 lanes
scanned lanes place best is end =
    ap (λ (ls : List Lane). least_from best place ls) (sym (drop_all place lanes end)) ∙ is

-- the journal at that place
pub lane_at : (lanes : List Lane) (x : ℕ × ℕ) (c : Cut lanes 0 x) (d : Lane) → slice_index_or lanes x.0 d ≡ c.lane
lane_at lanes x c d =
    let place = place_is lanes x c in
    ap (λ (p : ℕ × List Lane). slice_index_or p.1 p.0 d) (ap (λ (k : ℕ). (k, lanes)) place ∙ ap (λ (ls : List Lane). (length c.before, ls)) c.stands)
    ∙ get_or-append_seam c.before c.lane c.after d

changed_at : (lanes : List Lane) (x : ℕ × ℕ) (c : Cut lanes 0 x) (l : Lane) → slice_set lanes x.0 l ≡ c.before ++ l ∷ c.after
changed_at lanes x c l =
    let place = place_is lanes x c in
    ap (λ (p : ℕ × List Lane). slice_set p.1 p.0 l) (ap (λ (k : ℕ). (k, lanes)) place ∙ ap (λ (ls : List Lane). (length c.before, ls)) c.stands)
    ∙ set-append_seam c.before c.lane c.after l

-- its first entry is the least step
pub takes_at : (lanes : List Lane) (x : ℕ × ℕ) (c : Cut lanes 0 x) (s : Step) (l : Lane) → Ascends (numbers lanes) → c.lane.entries ≡ entry_of s ∷ l.entries → s.node ≡ c.lane.node → l.node ≡ c.lane.node → TakesLeast lanes s (slice_set lanes x.0 l)
takes_at lanes x c s l rises has node same =
    let heads : c.first ∷ c.rest ≡ entry_of s ∷ l.entries = sym c.has ∙ has in
    let first : entry_of s ≡ c.first = cc in
    let rest : c.rest ≡ l.entries = cc in
    let stamp : c.first.stamp ≡ s.stamp = ap (λ (e : Entry). e.stamp) (sym first) in
    let lane : rest_of c.lane c.rest ≡ l = ap (λ (es : List Entry). rest_of c.lane es) rest ∙ ap (λ (n : ℕ). record l { node = n }) (sym same) in
    let took = takes c.before c.lane c.after c.first c.rest s c.has first node (subst (λ (ls : List Lane). Ascends (numbers ls)) c.stands rises) (subst (λ (t : ℕ). AllAboveStamp t c.before) stamp c.earlier) (subst (λ (t : ℕ). AllFrom t c.after) stamp c.later) in
    subst (λ (ls : List Lane). TakesLeast ls s (slice_set lanes x.0 l)) (sym c.stands) (subst (λ (ls : List Lane). TakesLeast (c.before ++ c.lane ∷ c.after) s ls) (ap (λ (m : Lane). c.before ++ m ∷ c.after) lane ∙ sym (changed_at lanes x c l)) took)
