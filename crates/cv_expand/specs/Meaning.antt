-- What a script is expanded to, or its first fault.
use Rattle.std.specs.Prelude.{List, [], ◌++◌, Result}
use Rattle.cv_syntax.specs.declared.tree.Item.{Item}
use Rattle.cv_expand.specs.declared.fault.ExpandFault.{ExpandFault}
use Rattle.cv_expand.specs.declared.flat.Parts.{Parts}
use Rattle.cv_expand.specs.declared.setting.World.{World}
use Rattle.cv_expand.specs.Components.{components_in}
use Rattle.cv_expand.specs.Walk.{repeat_faults, root_spot, bads, walk}
use Rattle.cv_expand.specs.Heads.{defines_in, rule_names, rules_in, applies_in, statements_in, constants_from, define_faults, component_faults}
use Rattle.cv_expand.specs.Runs.{run}

-- the components and the constants of a script
abbrev pub world_of : List Item → World
world_of script = record { components = components_in script; defines = constants_from [] (defines_in script) }

-- faults of the constants, of the components and of the rules, in this order
abbrev pub root_faults : List Item → List ExpandFault
root_faults script =
    define_faults [] (defines_in script) ++ (component_faults [] (components_in script) ++ repeat_faults [] (rule_names script))

-- the rules and the applies as they are written, where the walk has met nothing yet
abbrev pub unwalked : List Item → Parts
unwalked script = record { actors = []; instances = []; feeds = []; rules = rules_in script; applies = applies_in script }

-- these and the parts that the walk meets, or the first fault that it meets
abbrev pub meaning : List Item → Result Parts ExpandFault
meaning script = run (unwalked script) (bads (root_faults script) ++ walk (world_of script) root_spot (statements_in script))
