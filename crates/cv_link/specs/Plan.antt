-- Which frames of a link are lost and which come twice. Frames are numbered from 1, in the order in which they are taken over a
-- whole run. A turn is a part of the run; a frame is judged by its number, and by the number of the first frame of its turn.
use Rattle.std.specs.Prelude.{ℕ, ◌≡◌, ◌+◌, ◌-◌, ◌^◌, ◌⊎◌, min, refl, IsTrue}
use Rattle.std.specs.FinSet as set
use Rattle.std.specs.Coded.{Coded, code_by, coded×, coded_ℕ}
use Rattle.cv_protocol.specs.declared.frame.Frame.{Frame}
use Rattle.cv_link.specs.declared.plan.Taken.{Taken}
use Rattle.cv_link.specs.declared.plan.Taken.TheVariants.{Deliver, Twice, Lost}
use Rattle.cv_link.specs.Items.{LinkView, link_code, HasWithin}

-- A plan between two frames: the items, the number of the next frame, and that of the first frame of this turn.
pub record PlanView : Type 0 where
  pub items : LinkView
  pub next : ℕ
  pub since : ℕ

abbrev pub plan_code : Coded PlanView
plan_code =
    code_by (LinkView × (ℕ × ℕ)) (coded× link_code (coded× coded_ℕ coded_ℕ)) (λ p. (p.items, (p.next, p.since))) (λ t. record { items = t.0; next = t.1.0; since = t.1.1 }) (λ _. refl)

-- The k-th frame is lost, in a turn whose first frame is the one with the number `since`: an item loses it, or cuts the link at it or
-- at a frame before it in this turn.
abbrev pub IsLost : LinkView → ℕ → ℕ → Type 0
IsLost items since k = IsTrue (set.contains items.lose k) ⊎ HasWithin items.cut since k

-- The k-th frame comes twice where it is not lost.
abbrev pub IsDoubled : LinkView → ℕ → Type 0
IsDoubled items k = IsTrue (set.contains items.twice k)

-- That is what becomes of this frame, the k-th one.
abbrev pub IsJudged : LinkView → ℕ → ℕ → Frame → Taken → Type 0
IsJudged items since k frame (Lost f) = (f ≡ frame) × IsLost items since k
IsJudged items since k frame (Twice f) = (f ≡ frame) × (¬ IsLost items since k) × IsDoubled items k
IsJudged items since k frame (Deliver f) = (f ≡ frame) × (¬ IsLost items since k) × (¬ IsDoubled items k)

-- The frame of which something was told.
abbrev pub frame_of : Taken → Frame
frame_of (Deliver f) = f
frame_of (Twice f) = f
frame_of (Lost f) = f

-- The next number, which stays at the greatest one; items name numbers below 2^32.
abbrev pub number_after : ℕ → ℕ
number_after n = min (n + 1) (2 ^ 64 - 1)

abbrev pub new_plan : LinkView → PlanView
new_plan items = record { items = items; next = 1; since = 1 }

abbrev pub counted : PlanView → PlanView
counted p = record p { next = number_after p.next }

abbrev pub turned : PlanView → PlanView
turned p = record p { since = p.next }

-- The plan p tells that of its next frame.
abbrev pub Tells : PlanView → Frame → Taken → Type 0
Tells p frame taken = IsJudged p.items p.since p.next frame taken
