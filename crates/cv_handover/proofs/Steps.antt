-- Every row of the node table is a step of the meaning, after which all holds.
use Rattle.std.proofs.Common.{◌≡◌, ℕ, Bool, true, false, ◌==◌, ◌&&◌, refl, ◌∙◌}
use Rattle.std.specs.Prelude.{nat_lt, nat_le}
use Rattle.std.proofs.lemmas.Bool.{and_parts}
use Rattle.std.specs.FinMap as map
use Rattle.cv_protocol.specs.declared.event.Event.{Event}
use Rattle.cv_protocol.specs.declared.event.Event.TheVariants as event
use Rattle.cv_protocol.specs.declared.frame.Body.{Body}
use Rattle.cv_protocol.specs.declared.frame.Body.TheVariants as body
use Rattle.cv_protocol.specs.declared.frame.Frame.{Frame}
use Rattle.cv_protocol.specs.Poll.{limit}
use Rattle.cv_protocol.specs.Rows.{is_node, most_applications, outlet}
use Rattle.cv_protocol.specs.NodeRow.{stamp_of, attempted, comes, deliver}
use Rattle.cv_handover.specs.World.{World, Came}
use Rattle.cv_handover.specs.Meaning.{Nets, Meaning}
use Rattle.cv_handover.specs.Agree.{History, SaysTrue, Agree}
use Rattle.cv_handover.specs.Runs.{CarriesNet, StepLaw}
use Rattle.cv_handover.proofs.Applications.{goes_destroyed, leads_destroy, leads_deploy}
use Rattle.cv_handover.proofs.Arriving.{goes_transfer, goes_cancel}
use Rattle.cv_handover.proofs.Coming.{token_goes, ack_goes, nack_goes}
use Rattle.cv_handover.proofs.Departing.{leads_freeze}
use Rattle.cv_handover.proofs.Goes.{Goes, GoesIfFew, goes_stamped}
use Rattle.cv_handover.proofs.Passing.{pass_goes}
use Rattle.cv_handover.proofs.Quiet.{leads_meet, leads_tick, leads_lose, leads_resend, leads_withdraw, goes_hint, number_same}
use Rattle.cv_handover.proofs.Using.{peek_goes, fire_goes, send_goes, rewind_goes}
use Rattle.cv_handover.proofs.Verdicts.{goes_verdict}

module _ (n : Nets) (w : World) (m : Meaning) (h : History) (i : ℕ) (g : Agree n w.nodes w.frames m h) where
  -- 1. A frame that comes

  comes_goes : (stamp : ℕ) (f : Frame) → f.to ≡ i → (b : Body) → SaysTrue m h f b → (comes (w.nodes i) stamp f.from b).fits ≡ true → Goes n w m i (comes (w.nodes i) stamp f.from b)
  comes_goes stamp f here (body.Token c a k t) says fits = token_goes n w m h i g stamp f.from c a k t says (map.get (w.nodes i).live a) refl fits
  comes_goes stamp f here (body.Ack c a upto) says fits = ack_goes n w m h i g c a upto says (map.get (w.nodes i).live a) refl
  comes_goes stamp f here (body.Nack c a upto) says fits = nack_goes n w m h i g c a upto says (map.get (w.nodes i).live a) refl
  comes_goes stamp f here (body.Transfer a e state) says fits = goes_transfer n w m h i g stamp f here a e state says
  comes_goes stamp f here (body.Verdict a e v) says fits = goes_verdict n w m h i g a e f.from v says
  comes_goes stamp f here (body.Cancel a e) says fits = goes_cancel n w m h i g stamp f here a e says
  comes_goes stamp f here (body.Located a e node) says fits = goes_hint n w m h i g a e node
  comes_goes stamp f here (body.Destroy app) says fits = goes_destroyed n w m h i g app

  addressed : (f : Frame) (low : Bool) → (f.to == (w.nodes i).spec.no) && low ≡ true → f.to ≡ i
  addressed f low is = number_same f.to (w.nodes i).spec.no (and_parts (f.to == (w.nodes i).spec.no) low is).0 ∙ g.numbered.number i

  deliver_leads : (stamp : ℕ) (f : Frame) → SaysTrue m h f f.body → (b : Bool) → (f.to == (w.nodes i).spec.no) && nat_lt f.stamp limit ≡ b → GoesIfFew n w m i (deliver (w.nodes i) stamp f b)
  deliver_leads stamp f says false is = tt
  deliver_leads stamp f says true is = λ fits. comes_goes stamp f (addressed f (nat_lt f.stamp limit) is) f.body says fits

  -- 2. Every event

  attempted_leads : (stamp : ℕ) (e : Event) → Came w e → CarriesNet n (w.nodes i) e → GoesIfFew n w m i (attempted (w.nodes i) stamp e)
  attempted_leads stamp (event.Meet node attrs) came carries = leads_meet n w m h i g node attrs (is_node node)
  attempted_leads stamp (event.Deploy name net) came carries = leads_deploy n w m h i g name net carries (nat_lt (w.nodes i).known.deployed most_applications)
  attempted_leads stamp (event.Tick now) came carries = leads_tick n w m h i g now (nat_le (w.nodes i).now now && nat_lt now limit)
  attempted_leads stamp (event.Peek a port) came carries = peek_goes n w m h i g a port (map.get (w.nodes i).live a) refl
  attempted_leads stamp (event.Fire a action) came carries = fire_goes n w m h i g a action (map.get (w.nodes i).live a) refl
  attempted_leads stamp (event.Pass conn) came carries = pass_goes n w m h i g conn (outlet (w.nodes i) conn) refl
  attempted_leads stamp (event.Send conn) came carries = send_goes n w m h i g stamp conn (outlet (w.nodes i) conn) refl
  attempted_leads stamp (event.Rewind conn) came carries = rewind_goes n w m h i g conn (outlet (w.nodes i) conn) refl
  attempted_leads stamp (event.Freeze a to) came carries = leads_freeze n w m h i g stamp a to (map.get (w.nodes i).live a) refl
  attempted_leads stamp (event.Resend a) came carries = leads_resend n w m h i g stamp a (map.get (w.nodes i).moves.frozen a) refl
  attempted_leads stamp (event.Withdraw a) came carries = leads_withdraw n w m h i g stamp a (map.get (w.nodes i).moves.frozen a) refl
  attempted_leads stamp (event.Hint a e node) came carries = λ fits. goes_hint n w m h i g a e node
  attempted_leads stamp (event.Destroy app) came carries = leads_destroy n w m h i g app stamp (map.get (w.nodes i).known.apps app)
  attempted_leads stamp (event.Lose f) came carries = leads_lose n w m h i g (f.to == (w.nodes i).spec.no)
  attempted_leads stamp (event.Deliver f) came carries = deliver_leads stamp f (g.sent f came) ((f.to == (w.nodes i).spec.no) && nat_lt f.stamp limit) refl

pub every_step : StepLaw
every_step n w m h i e g came carries =
    goes_stamped n w m i (stamp_of (w.nodes i) e) (attempted (w.nodes i) (stamp_of (w.nodes i) e) e) (attempted_leads n w m h i g (stamp_of (w.nodes i) e) e came carries)
