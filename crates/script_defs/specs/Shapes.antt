-- What stands behind each word of the language: one row a word.
use Rattle.std.specs.Prelude.{true, false, Option, None, Some}
use Rattle.row_defs.specs.declared.kind.Kind.TheVariants.{Int, Text}
use Rattle.row_defs.specs.LocalOps.{most_spread}
use Rattle.script_defs.specs.declared.word.Word.{Word}
use Rattle.script_defs.specs.declared.word.Word.TheVariants.{Lines, Generate, Map, Filter, FlatMap, Cache, Print, Size, Sum}
use Rattle.script_defs.specs.declared.word.Selector.{Selector}
use Rattle.script_defs.specs.declared.word.Selector.TheVariants.{Words, Spread}
use Rattle.script_defs.specs.declared.shape.Shape.{Shape}
use Rattle.script_defs.specs.declared.shape.Names.{Names}
use Rattle.script_defs.specs.declared.shape.ExprPlace.TheVariants.{Nowhere, Test, List}
use Rattle.script_defs.specs.Limits.{most_numbers}

-- a line of one word that names no earlier line
abbrev pub line_shape : Shape
line_shape = record {
  defines = true;
  is_selected = true;
  least = 1;
  most = Some 1;
  names = record { from = 0; most = 0 };
  number = None;
  column = None;
  exprs = Nowhere;
}

abbrev pub one_name : Names
one_name = record { from = 0; most = 1 }

-- a line of two words or more, the first of which names an earlier line
abbrev pub local_shape : Shape
local_shape = record line_shape { least = 2; most = None; names = one_name }

-- a line of one word, which names an earlier line
abbrev pub cache_shape : Shape
cache_shape = record line_shape { names = one_name }

-- an action on the line that its one word names
abbrev pub action_shape : Shape
action_shape = record line_shape { defines = false; names = one_name }

-- only a flatmap has a selector; one that isn't known asks for no number of words
abbrev pub shape_of : Word → Option Selector → Shape
shape_of Lines s = line_shape
shape_of Generate s = record line_shape { number = Some (record { place = 0; least = 0; most = most_numbers }) }
shape_of Map s = record local_shape { exprs = List 1 }
shape_of Filter s = record local_shape { exprs = Test 1 }
shape_of FlatMap None = record local_shape { is_selected = false }
shape_of FlatMap (Some Words) = record local_shape { least = 3; most = Some 3; column = Some (record { place = 2; kind = Text }) }
shape_of FlatMap (Some Spread) = record local_shape {
  least = 4;
  most = Some 4;
  column = Some (record { place = 2; kind = Int });
  number = Some (record { place = 3; least = 1; most = most_spread });
}
shape_of Cache s = cache_shape
shape_of Print s = action_shape
shape_of Size s = action_shape
shape_of Sum s = record action_shape { least = 2; most = Some 2; column = Some (record { place = 1; kind = Int }) }
