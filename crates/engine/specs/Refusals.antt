-- The number of each refusal.
use Rattle.std.specs.Prelude.{ℕ}
use Rattle.engine.specs.declared.refusal.Refusal.{Refusal}
use Rattle.engine.specs.declared.refusal.Refusal.TheVariants.{Devices, OperatorByte, DeviceNumber, Constant, LineNumber, Itself, Buffer, Taken, Free, Clash}

abbrev pub number_of : Refusal → ℕ
number_of Devices = 2
number_of OperatorByte = 5
number_of DeviceNumber = 6
number_of Constant = 7
number_of LineNumber = 8
number_of Itself = 9
number_of Buffer = 10
number_of Taken = 21
number_of Free = 22
number_of Clash = 23
