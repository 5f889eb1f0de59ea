-- What a table and a choice hold.
use Rattle.std.specs.Prelude.{ℕ, Bool, List, Option}
use Rattle.lines.specs.declared.line.Line.{Line}
use Rattle.tables.specs.declared.choice.Choice.{Choice}
use Rattle.tables.specs.declared.table.Table.{Table}

abbrev pub devices_of : Table → ℕ
devices_of t = t.devices

-- under each number a line or none
abbrev pub records_of : Table → List (Option Line)
records_of t = t.lines

-- for each number whether it is chosen
abbrev pub picked_of : Choice → List Bool
picked_of c = c.picked
