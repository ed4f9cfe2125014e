use Rattle.std.proofs.Common.{ℕ, List, All, map, sym, ap, ◌∙◌, subst}
use Rattle.cv_link.specs.declared.items.Item.{Item}
use Rattle.cv_spread.specs.Placing.{ItemsFit}
use Rattle.cv_top.specs.Ran.{IsNear, link_item}
use Rattle.cv_top.proofs.Planned.{items_fit, items_near}
use Rattle.cv_top.proofs.Rights.{alone_right}
use Rattle.cv_top.proofs.nodes.run_on_nodes.Goals as goal

pub returns-then-nodes-eq1 : goal.returns-then-nodes-eq1
returns-then-nodes-eq1 g c =
    alone_right c.args.words.now c.args.net c.firings-firings.result c.run_alone.result (sym c.nodes-nodes.ensures.nodes ∙ c.if-nodes-eq1.true) c.firings-firings.ensures c.requires.wired c.run_alone.ensures

pub link_items-requires : goal.link_items-requires
link_items-requires g c =
    let words = c.args.words.now in
    subst (All IsNear) (sym c.items.ensures) (items_near words.nodes words.items c.nodes-nodes.ensures.run.few_nodes c.requires.fits)

pub run_spread-requires-clause-items : goal.run_spread-requires-clause-items
run_spread-requires-clause-items g c _ _ =
    let words = c.args.words.now in
    let run = c.nodes-nodes.ensures.run in
    let fit = subst (λ (n : ℕ). ItemsFit n (map link_item words.items)) (sym c.nodes-nodes.ensures.nodes) (items_fit words.nodes words.items run.proper c.requires.fits) in
    subst (λ (xs : List Item). ItemsFit c.nodes-nodes.result xs) (sym (c.in_ok-items.ensures ∙ ap (map link_item) c.items.ensures)) fit
