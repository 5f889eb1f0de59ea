-- The last line of a session: of the command that ends it, or of its fault.
use Rattle.std.specs.Prelude.{ℕ, List, [], ◌∷◌, ◌++◌, Some, None, codes, Option}
use Rattle.session.specs.Faults.{number_of}
use Rattle.session.specs.declared.fault.Fault.{Fault}
use Rattle.session.specs.declared.fault.Layer.{Layer}
use Rattle.session.specs.declared.fault.Layer.TheVariants.{Heading, Command, Operand}
use Rattle.printing.specs.Fields.{field, number_field}

abbrev pub layer_name : Layer → List ℕ
layer_name Heading = codes "heading"
layer_name Command = codes "command"
layer_name Operand = codes "operand"

-- the word fault, its number, place and layer
abbrev pub fault_line : Fault → List ℕ
fault_line f = codes "fault" ++ (number_field (number_of f.cause) ++ (number_field f.place ++ (field (layer_name f.layer) ++ 10 ∷ [])))

-- the letter Z, or the fault
abbrev pub closing : Option Fault → List ℕ
closing None = codes "Z\n"
closing (Some f) = fault_line f
