-- The first fault of a script, and its network.
use Rattle.std.proofs.Common.{◌≡◌, ℕ, List, Option, Some, None, Result, Ok, Err, refl, sym, ◌∙◌, ap, subst}
use Rattle.cv_expand.specs.declared.fault.ExpandFault.{ExpandFault}
use Rattle.cv_expand.specs.declared.fault.ExpandFault.TheVariants as expanding
use Rattle.cv_expand.specs.declared.flat.Parts.{Parts}
use Rattle.cv_expand.specs.Meaning.{meaning}
use Rattle.cv_expand.specs.Runs.{failure, FailsAs}
use Rattle.cv_graph.specs.declared.fault.GraphFault.{GraphFault}
use Rattle.cv_graph.specs.declared.fault.GraphFault.TheVariants as joining
use Rattle.cv_graph.specs.Checks.{checks, AllHold, IsFirst}
use Rattle.cv_graph.specs.Faults.{Faulty}
use Rattle.cv_graph.specs.Meaning.{IsNetwork}
use Rattle.cv_graph.proofs.Single.{one_first, none_first, one_network}
use Rattle.cv_kinds.specs.Net.{Net}
use Rattle.cv_syntax.specs.declared.tree.Item.{Item}
use Rattle.cv_deploy.specs.declared.fault.Code.{Code}
use Rattle.cv_deploy.specs.declared.fault.Code.TheVariants as code
use Rattle.cv_deploy.specs.declared.fault.Fault.{Fault}
use Rattle.cv_deploy.specs.declared.fault.NoNetwork.{NoNetwork}
use Rattle.cv_deploy.specs.declared.fault.NoNetwork.TheVariants as refusal
use Rattle.cv_deploy.specs.Faults.{StandsAt, Gives, Refuses, Said, said, expand_said, graph_said, FaultOf, of_walk, of_parts, of_rules, HasScriptFault, SaidTo, IsScriptFault}
use Rattle.cv_deploy.specs.Meaning.{first_word, IsWhole, StandsFor}

some_same : {X : Type 0} (x y : X) → Some x ≡ Some y → x ≡ y
some_same x y e = cc

ok_same : (x y : Parts) → ◌≡◌ {A = Result Parts ExpandFault} (Ok x) (Ok y) → x ≡ y
ok_same x y e = cc

err_same : (x y : ExpandFault) → ◌≡◌ {A = Result Parts ExpandFault} (Err x) (Err y) → x ≡ y
err_same x y e = cc

ok_err : (x : Parts) (y : ExpandFault) → ◌≡◌ {A = Result Parts ExpandFault} (Ok x) (Err y) → ⊥
ok_err x y e = cc

-- ---- what is said

pub by_said : (bytes : List ℕ) (script : List Item) (o : Option Said) (r : NoNetwork) → ((s : Said) → o ≡ Some s → FaultOf script s) → SaidTo bytes o r → IsScriptFault bytes script r
by_said bytes script None (refusal.Script f) of told = let clash : refusal.Script f ≡ refusal.OutOfMemory = told in cc
by_said bytes script None refusal.OutOfMemory of told = tt
by_said bytes script (Some s) (refusal.Script f) of told = (s.at, subst (λ (c : Code). FaultOf script (record { code = c; at = s.at })) (sym told.1) (of s refl), told.0)
by_said bytes script (Some s) refusal.OutOfMemory of told = absurd told

failed : (r : Result Parts ExpandFault) (e : ExpandFault) → failure r ≡ Some e → r ≡ Err e
failed (Ok parts) e h = cc
failed (Err f) e h = let same : f ≡ e = some_same f e h in ap (λ (x : ExpandFault). Err x) same

pub walk_said : (script : List Item) (e : ExpandFault) → FailsAs e (failure (meaning script)) → (s : Said) → expand_said e ≡ Some s → FaultOf script s
walk_said script expanding.OutOfMemory h s is = cc
walk_said script (expanding.NoComponent at) h s is = of_walk (expanding.NoComponent at) (failed (meaning script) _ h) is
walk_said script (expanding.Recursion at) h s is = of_walk (expanding.Recursion at) (failed (meaning script) _ h) is
walk_said script (expanding.ArgCount at) h s is = of_walk (expanding.ArgCount at) (failed (meaning script) _ h) is
walk_said script (expanding.NoArg at) h s is = of_walk (expanding.NoArg at) (failed (meaning script) _ h) is
walk_said script (expanding.DoubleName at) h s is = of_walk (expanding.DoubleName at) (failed (meaning script) _ h) is
walk_said script (expanding.TooMany at) h s is = of_walk (expanding.TooMany at) (failed (meaning script) _ h) is

pub parts_said : (script : List Item) (parts : Parts) (e : GraphFault) → meaning script ≡ Ok parts → Faulty parts (checks parts) e → (s : Said) → graph_said e ≡ Some s → FaultOf script s
parts_said script parts joining.OutOfMemory m h s is = cc
parts_said script parts (joining.NoKind at) m h s is = of_parts parts (joining.NoKind at) m h is
parts_said script parts (joining.Fraction at) m h s is = of_parts parts (joining.Fraction at) m h is
parts_said script parts (joining.BadArg at) m h s is = of_parts parts (joining.BadArg at) m h is
parts_said script parts (joining.NoPort at) m h s is = of_parts parts (joining.NoPort at) m h is
parts_said script parts (joining.FedTwice at) m h s is = of_parts parts (joining.FedTwice at) m h is
parts_said script parts (joining.Unfed at) m h s is = of_parts parts (joining.Unfed at) m h is
parts_said script parts (joining.BatchOverQueue at) m h s is = of_parts parts (joining.BatchOverQueue at) m h is

pub rules_said : (script : List Item) (parts : Parts) (at : ℕ) → IsWhole script parts → first_word script ≡ Some at → (s : Said) → said code.Unbuilt at ≡ Some s → FaultOf script s
rules_said script parts at whole word s is = of_rules parts at whole word is

-- ---- one fault

same_parts : (script : List Item) (x y : Parts) → meaning script ≡ Ok x → meaning script ≡ Ok y → x ≡ y
same_parts script x y e f = ok_same x y (sym e ∙ f)

one_said : (script : List Item) (s t : Said) → FaultOf script s → FaultOf script t → s ≡ t
one_said script s t (of_walk e m is) (of_walk f n as_) = some_same s t (sym is ∙ ap expand_said (err_same e f (sym m ∙ n)) ∙ as_)
one_said script s t (of_walk e m is) (of_parts parts f n first as_) = absurd (ok_err parts e (sym n ∙ m))
one_said script s t (of_walk e m is) (of_rules parts at whole word as_) = absurd (ok_err parts e (sym whole.0 ∙ m))
one_said script s t (of_parts parts e m first is) (of_walk f n as_) = absurd (ok_err parts f (sym m ∙ n))
one_said script s t (of_parts parts e m first is) (of_parts others f n second as_) =
    let same = same_parts script others parts n m in
    some_same s t (sym is ∙ ap graph_said (one_first parts (checks parts) e f first (subst (λ (p : Parts). IsFirst p (checks p) f) same second)) ∙ as_)
one_said script s t (of_parts parts e m first is) (of_rules others at whole word as_) =
    let same = same_parts script others parts whole.0 m in
    absurd (none_first parts (checks parts) e (subst (λ (p : Parts). AllHold p (checks p)) same whole.1) first)
one_said script s t (of_rules others at whole word is) (of_walk f n as_) = absurd (ok_err others f (sym whole.0 ∙ n))
one_said script s t (of_rules others at whole word is) (of_parts parts e m first as_) =
    let same = same_parts script others parts whole.0 m in
    absurd (none_first parts (checks parts) e (subst (λ (p : Parts). AllHold p (checks p)) same whole.1) first)
one_said script s t (of_rules parts at whole word is) (of_rules others to hole ward as_) =
    some_same s t (sym is ∙ ap (said code.Unbuilt) (some_same at to (sym word ∙ ward)) ∙ as_)

-- what has a fault has no network
no_network : (script : List Item) (s : Said) (net : Net) → FaultOf script s → StandsFor script net → ⊥
no_network script s net (of_walk e m is) h = ok_err h.0 e (sym h.1.0 ∙ m)
no_network script s net (of_parts parts e m first is) h =
    let same = same_parts script h.0 parts h.1.0 m in
    none_first parts (checks parts) e (subst (λ (p : Parts). AllHold p (checks p)) same h.1.1) first
no_network script s net (of_rules parts at whole word is) h = let clash : Some at ≡ None = sym word ∙ h.3 in cc

pub same_fault : (bytes : List ℕ) (script : List Item) (told fault : Fault) → HasScriptFault bytes script told → HasScriptFault bytes script fault → told ≡ fault
same_fault bytes script told fault h g =
    let same = one_said script _ _ h.1 g.1 in
    let places : h.0 ≡ g.0 = ap (λ (s : Said). s.at) same in
    let codes_same : told.code ≡ fault.code = ap (λ (s : Said). s.code) same in
    let here = subst (λ (n : ℕ). StandsAt bytes n told) places h.2 in
    let lines : told.line ≡ fault.line = here.0 ∙ sym g.2.0 in
    let cols : told.col ≡ fault.col = here.1 ∙ sym g.2.1 in
    (λ i. record { line = lines i; col = cols i; code = codes_same i })

-- ---- answers

pub fault_refuses : (bytes : List ℕ) (script : List Item) (r : NoNetwork) (fault : Fault) → IsScriptFault bytes script r → HasScriptFault bytes script fault → Refuses {X = Net} (Err r) fault
fault_refuses bytes script (refusal.Script told) fault is h = same_fault bytes script told fault is h
fault_refuses bytes script refusal.OutOfMemory fault is h = tt

pub fault_gives : (bytes : List ℕ) (script : List Item) (r : NoNetwork) (net : Net) → IsScriptFault bytes script r → StandsFor script net → Gives {X = Net} (Err r) net
fault_gives bytes script (refusal.Script told) net is h = absurd (no_network script _ net is.1 h)
fault_gives bytes script refusal.OutOfMemory net is h = tt

pub network_refuses : (bytes : List ℕ) (script : List Item) (net : Net) (fault : Fault) → StandsFor script net → HasScriptFault bytes script fault → ⊥
network_refuses bytes script net fault h is = no_network script _ net is.1 h

pub one_meaning : (script : List Item) (n m : Net) → StandsFor script n → StandsFor script m → n ≡ m
one_meaning script n m h g = one_network h.0 n m h.2 (subst (λ (p : Parts). IsNetwork p m) (same_parts script g.0 h.0 g.1.0 h.1.0) g.2)
