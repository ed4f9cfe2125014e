-- The table of kinds: a line for each, with its name, its ports, its parameters and its slots.
use Rattle.std.specs.Prelude.{ℕ, pos, negsuc, List, [], ◌∷◌, codes}
use Rattle.cv_flow.specs.declared.kind.FlowKind.{FlowKind}
use Rattle.cv_flow.specs.declared.kind.FlowKind.TheVariants as flow
use Rattle.cv_calc.specs.declared.kind.CalcKind.{CalcKind}
use Rattle.cv_calc.specs.declared.kind.CalcKind.TheVariants as calc
use Rattle.cv_kinds.specs.declared.kind.Kind.{Kind}
use Rattle.cv_kinds.specs.declared.kind.Kind.TheVariants as kind
use Rattle.cv_kinds.specs.declared.table.Param.{Param}
use Rattle.cv_kinds.specs.declared.table.Preset.{Preset}
use Rattle.cv_kinds.specs.declared.table.Preset.TheVariants as preset
use Rattle.cv_kinds.specs.declared.table.Slot.{Slot}
use Rattle.cv_kinds.specs.declared.table.Slot.TheVariants as slot
use Rattle.cv_kinds.specs.declared.table.Sort.{Sort}
use Rattle.cv_kinds.specs.declared.table.Sort.TheVariants as sort

-- a parameter: its name, what its argument has to be, and what that is where none is given
pub record Parameter : Type 0 where
  pub name : List ℕ
  pub sort : Sort
  pub preset : Preset

-- a kind's name, the names of its inports and its outports, its parameters, and the slots of its state
pub record Line : Type 0 where
  pub name : List ℕ
  pub inports : List (List ℕ)
  pub outports : List (List ℕ)
  pub params : List Parameter
  pub slots : List Slot

abbrev pub takes : List ℕ → Sort → Preset → Parameter
takes name sort preset = record { name = name; sort = sort; preset = preset }

-- a parameter as the code has it
abbrev pub taking : Param → Parameter
taking p = takes p.name.now p.sort p.preset

abbrev pub flow_line : FlowKind → Line
flow_line flow.Constant = record {
  name = codes "std.Constant";
  inports = [];
  outports = codes "token" ∷ [];
  params = takes (codes "data") sort.Any preset.Required ∷ takes (codes "n") (sort.AtLeast (negsuc 0)) (preset.Int (pos 1)) ∷ [];
  slots = slot.Plain (sort.AtLeast (negsuc 0)) ∷ [];
}
flow_line flow.Counter = record {
  name = codes "std.Counter";
  inports = [];
  outports = codes "integer" ∷ [];
  params = takes (codes "start") sort.Int (preset.Int (pos 1)) ∷ [];
  slots = slot.Next ∷ [];
}
flow_line flow.CountTimer = record {
  name = codes "std.CountTimer";
  inports = [];
  outports = codes "integer" ∷ [];
  params = takes (codes "sleep") sort.Duration (preset.Int (pos 1000)) ∷ takes (codes "start") sort.Int (preset.Int (pos 1)) ∷ takes (codes "steps") (sort.AtLeast (negsuc 0)) (preset.Int (negsuc 0)) ∷ [];
  slots = slot.Next ∷ slot.Plain (sort.AtLeast (negsuc 0)) ∷ [];
}
flow_line flow.Identity = record {
  name = codes "std.Identity";
  inports = codes "token" ∷ [];
  outports = codes "token" ∷ [];
  params = takes (codes "dump") sort.Truth preset.False ∷ [];
  slots = [];
}
flow_line flow.Sequence = record {
  name = codes "std.Sequence";
  inports = [];
  outports = codes "token" ∷ [];
  params = takes (codes "data") sort.List preset.Required ∷ [];
  slots = slot.Place ∷ [];
}
flow_line flow.Trigger = record {
  name = codes "std.Trigger";
  inports = [];
  outports = codes "data" ∷ [];
  params = takes (codes "tick") sort.Duration (preset.Int (pos 1000)) ∷ takes (codes "data") sort.Any preset.Null ∷ [];
  slots = [];
}
flow_line flow.Delay = record {
  name = codes "std.Delay";
  inports = codes "token" ∷ [];
  outports = codes "token" ∷ [];
  params = takes (codes "delay") sort.Duration (preset.Int (pos 1000)) ∷ [];
  slots = slot.Plain sort.Truth ∷ slot.Plain sort.Any ∷ [];
}
flow_line flow.Sum = record {
  name = codes "std.Sum";
  inports = codes "integer" ∷ [];
  outports = codes "integer" ∷ [];
  params = [];
  slots = slot.Plain sort.Int ∷ [];
}
flow_line flow.Tally = record {
  name = codes "std.Tally";
  inports = codes "token" ∷ [];
  outports = codes "integer" ∷ [];
  params = [];
  slots = slot.Plain (sort.AtLeast (pos 0)) ∷ [];
}
flow_line flow.Print = record {
  name = codes "io.Print";
  inports = codes "token" ∷ [];
  outports = [];
  params = [];
  slots = [];
}
flow_line flow.Terminator = record {
  name = codes "flow.Terminator";
  inports = codes "void" ∷ [];
  outports = [];
  params = [];
  slots = [];
}
flow_line flow.Init = record {
  name = codes "flow.Init";
  inports = codes "in" ∷ [];
  outports = codes "out" ∷ [];
  params = takes (codes "data") sort.Any preset.Required ∷ [];
  slots = slot.Plain sort.Truth ∷ [];
}
flow_line flow.Join = record {
  name = codes "flow.Join";
  inports = codes "token_1" ∷ codes "token_2" ∷ [];
  outports = codes "token" ∷ [];
  params = [];
  slots = [];
}
flow_line flow.Alternate2 = record {
  name = codes "flow.Alternate2";
  inports = codes "token_1" ∷ codes "token_2" ∷ [];
  outports = codes "token" ∷ [];
  params = [];
  slots = slot.Plain (sort.Within (pos 0) (pos 1)) ∷ [];
}
flow_line flow.Alternate3 = record {
  name = codes "flow.Alternate3";
  inports = codes "token_1" ∷ codes "token_2" ∷ codes "token_3" ∷ [];
  outports = codes "token" ∷ [];
  params = [];
  slots = slot.Plain (sort.Within (pos 0) (pos 2)) ∷ [];
}
flow_line flow.Dealternate2 = record {
  name = codes "flow.Dealternate2";
  inports = codes "token" ∷ [];
  outports = codes "token_1" ∷ codes "token_2" ∷ [];
  params = [];
  slots = slot.Plain (sort.Within (pos 0) (pos 1)) ∷ [];
}
flow_line flow.Select = record {
  name = codes "flow.Select";
  inports = codes "select" ∷ codes "data" ∷ [];
  outports = codes "case_true" ∷ codes "case_false" ∷ [];
  params = [];
  slots = [];
}
flow_line flow.Switch = record {
  name = codes "flow.Switch";
  inports = codes "switch" ∷ codes "a" ∷ codes "b" ∷ [];
  outports = codes "data" ∷ [];
  params = [];
  slots = [];
}
flow_line flow.Batch = record {
  name = codes "flow.Batch";
  inports = codes "token" ∷ [];
  outports = codes "list" ∷ [];
  params = takes (codes "n") (sort.Within (pos 1) (pos 64)) (preset.Int (pos 2)) ∷ [];
  slots = [];
}
flow_line flow.Unbatch = record {
  name = codes "flow.Unbatch";
  inports = codes "list" ∷ [];
  outports = codes "token" ∷ [];
  params = [];
  slots = slot.Plain sort.List ∷ [];
}
flow_line flow.Take = record {
  name = codes "flow.Take";
  inports = codes "token" ∷ [];
  outports = codes "token" ∷ [];
  params = takes (codes "n") (sort.AtLeast (pos 0)) preset.Required ∷ [];
  slots = slot.Plain (sort.AtLeast (pos 0)) ∷ [];
}
flow_line flow.Skip = record {
  name = codes "flow.Skip";
  inports = codes "token" ∷ [];
  outports = codes "token" ∷ [];
  params = takes (codes "n") (sort.AtLeast (pos 0)) preset.Required ∷ [];
  slots = slot.Plain (sort.AtLeast (pos 0)) ∷ [];
}
flow_line flow.Every = record {
  name = codes "flow.Every";
  inports = codes "token" ∷ [];
  outports = codes "token" ∷ [];
  params = takes (codes "n") (sort.AtLeast (pos 1)) preset.Required ∷ [];
  slots = slot.Round ∷ [];
}
flow_line flow.Valve = record {
  name = codes "flow.Valve";
  inports = codes "open" ∷ codes "token" ∷ [];
  outports = codes "token" ∷ [];
  params = [];
  slots = slot.Plain sort.Truth ∷ [];
}
flow_line flow.Zip = record {
  name = codes "flow.Zip";
  inports = codes "a" ∷ codes "b" ∷ [];
  outports = codes "pair" ∷ [];
  params = [];
  slots = [];
}
flow_line flow.Unzip = record {
  name = codes "flow.Unzip";
  inports = codes "pair" ∷ [];
  outports = codes "a" ∷ codes "b" ∷ [];
  params = [];
  slots = [];
}
flow_line flow.Change = record {
  name = codes "flow.Change";
  inports = codes "token" ∷ [];
  outports = codes "token" ∷ [];
  params = [];
  slots = slot.Plain sort.Truth ∷ slot.Plain sort.Any ∷ [];
}

abbrev pub calc_line : CalcKind → Line
calc_line calc.Add = record {
  name = codes "math.Add";
  inports = codes "a" ∷ codes "b" ∷ [];
  outports = codes "result" ∷ [];
  params = [];
  slots = [];
}
calc_line calc.Subtract = record {
  name = codes "math.Subtract";
  inports = codes "a" ∷ codes "b" ∷ [];
  outports = codes "result" ∷ [];
  params = [];
  slots = [];
}
calc_line calc.Multiply = record {
  name = codes "math.Multiply";
  inports = codes "a" ∷ codes "b" ∷ [];
  outports = codes "result" ∷ [];
  params = [];
  slots = [];
}
calc_line calc.Divide = record {
  name = codes "math.Divide";
  inports = codes "a" ∷ codes "b" ∷ [];
  outports = codes "result" ∷ [];
  params = [];
  slots = [];
}
calc_line calc.Modulo = record {
  name = codes "math.Modulo";
  inports = codes "a" ∷ codes "b" ∷ [];
  outports = codes "result" ∷ [];
  params = [];
  slots = [];
}
calc_line calc.Compare = record {
  name = codes "math.Compare";
  inports = codes "a" ∷ codes "b" ∷ [];
  outports = codes "result" ∷ [];
  params = takes (codes "op") sort.Operator preset.Required ∷ [];
  slots = [];
}
calc_line calc.Concat = record {
  name = codes "text.Concat";
  inports = codes "a" ∷ codes "b" ∷ [];
  outports = codes "text" ∷ [];
  params = [];
  slots = [];
}
calc_line calc.Length = record {
  name = codes "text.Length";
  inports = codes "text" ∷ [];
  outports = codes "integer" ∷ [];
  params = [];
  slots = [];
}
calc_line calc.Prefix = record {
  name = codes "text.Prefix";
  inports = codes "text" ∷ [];
  outports = codes "text" ∷ [];
  params = takes (codes "prefix") sort.Text preset.EmptyText ∷ [];
  slots = [];
}
calc_line calc.JsonText = record {
  name = codes "json.Text";
  inports = codes "token" ∷ [];
  outports = codes "text" ∷ [];
  params = [];
  slots = [];
}
calc_line calc.JsonParse = record {
  name = codes "json.Parse";
  inports = codes "text" ∷ [];
  outports = codes "token" ∷ [];
  params = [];
  slots = [];
}
calc_line calc.JsonGet = record {
  name = codes "json.Get";
  inports = codes "container" ∷ [];
  outports = codes "value" ∷ [];
  params = takes (codes "key") sort.TextOrInt preset.Required ∷ [];
  slots = [];
}
calc_line calc.Not = record {
  name = codes "logic.Not";
  inports = codes "a" ∷ [];
  outports = codes "result" ∷ [];
  params = [];
  slots = [];
}

unfoldable pub line_of : Kind → Line
line_of (kind.Flow k) = flow_line k
line_of (kind.Calc k) = calc_line k
