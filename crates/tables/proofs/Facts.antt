-- What holds of every table and every choice.
use Rattle.std.proofs.Common.{◌≡◌, ℕ, ◌≤◌, length}
use Rattle.lines.specs.Proper.{Proper}
use Rattle.lines.specs.declared.line.Line.{Line}
use Rattle.tables.specs.Of.{devices_of, records_of}
use Rattle.tables.specs.Tables.{Shows}
use Rattle.tables.specs.declared.table.Table.{Table}
use Rattle.tables.proofs.Records.{shown_proper}

pub some : (t : Table) → 1 ≤ devices_of t
some t = t.some

pub few : (t : Table) → devices_of t ≤ 200
few t = t.few

pub full : (t : Table) → length (records_of t) ≡ 400
full t = t.full

pub proper : (t : Table) (k : ℕ) (l : Line) → Shows (records_of t) k l → Proper (devices_of t) l
proper t = shown_proper (devices_of t) (records_of t) t.sound
