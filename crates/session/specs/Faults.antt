-- The number of each fault.
use Rattle.std.specs.Prelude.{ℕ}
use Rattle.session.specs.declared.fault.Cause.{Cause}
use Rattle.session.specs.declared.fault.Cause.TheVariants.{TooLong, BadHeading, UnknownCommand, EndsEarly}

abbrev pub number_of : Cause → ℕ
number_of TooLong = 1
number_of BadHeading = 2
number_of UnknownCommand = 3
number_of EndsEarly = 4
