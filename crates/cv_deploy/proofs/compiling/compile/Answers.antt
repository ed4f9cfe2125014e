use Rattle.std.proofs.Common.{List, ℕ, inl, inr, sym, subst}
use Rattle.std.proofs.lemmas.Result.{err_from_is_err_and, IfOk-weaker}
use Rattle.cv_kinds.specs.Net.{Net}
use Rattle.cv_kinds.specs.Wired.{IsWired}
use Rattle.cv_syntax.specs.declared.tree.Script.{Script}
use Rattle.cv_deploy.specs.Faults.{SpellsScript, HasFault, HasScriptFault}
use Rattle.cv_deploy.specs.Meaning.{StandsFor}
use Rattle.cv_deploy.proofs.Causes.{gives_err, refuses_err}
use Rattle.cv_deploy.proofs.Texts.{refuses_other}
use Rattle.cv_graph.proofs.Wires.{network_is_wired}
use Rattle.cv_deploy.proofs.compiling.compile.Goals as goal

pub returns-in_err-script-clause-only : goal.returns-in_err-script-clause-only
returns-in_err-script-clause-only c = λ net means.
    let p = err_from_is_err_and c.from_residual.result c.from_residual.ensures.1 in
    rw (p.1, p.2) (gives_err _ means.0 net (c.in_err-script.ensures.only means.0 (subst (λ (bs : List ℕ). SpellsScript bs means.0) (sym c.in-Ok.ensures.cases.0) means.1)))

pub returns-in_err-script-clause-faulty : goal.returns-in_err-script-clause-faulty
returns-in_err-script-clause-faulty c = λ fault has.
    let p = err_from_is_err_and c.from_residual.result c.from_residual.ensures.1 in
    rw (p.1, p.2) (elim (c.in_err-script.ensures.faulty fault (subst (λ (bs : List ℕ). HasFault bs fault) (sym c.in-Ok.ensures.cases.0) has)) [
      | inl told ↦ refuses_other _ fault told
      | inr spells ↦ refuses_err Net _ spells.0 fault (c.in_err-script.ensures.only spells.0 spells.1)
    ])

pub returns-clause-wired : goal.returns-clause-wired
returns-clause-wired c = IfOk-weaker c.network_of.result (StandsFor c.in_ok-script.script.items) IsWired (λ n h. network_is_wired h.0 n h.2) c.network_of.ensures.found

pub returns-clause-only : goal.returns-clause-only
returns-clause-only c = λ net means.
    let same = c.in_ok-script.ensures.only means.0 (subst (λ (bs : List ℕ). SpellsScript bs means.0) (sym c.in-Ok.ensures.cases.0) means.1) in
    c.network_of.ensures.only net (subst (λ (s : Script). StandsFor s.items net) (sym same) means.2)

pub returns-clause-faulty : goal.returns-clause-faulty
returns-clause-faulty c = λ fault has.
    elim (c.in_ok-script.ensures.faulty fault (subst (λ (bs : List ℕ). HasFault bs fault) (sym c.in-Ok.ensures.cases.0) has)) [
      | inl none ↦ absurd none
      | inr spells ↦
          let same = c.in_ok-script.ensures.only spells.0 spells.1 in
          c.network_of.ensures.refused fault (subst (λ (s : Script). HasScriptFault c.args.bytes.now s.items fault) (sym same) (subst (λ (bs : List ℕ). HasScriptFault bs spells.0.items fault) c.in-Ok.ensures.cases.0 spells.2))
    ]
