use Rattle.std.proofs.Common.{[], arith}
use Rattle.lines.specs.declared.asked.Asked.{Asked}
use Rattle.lines.specs.declared.call.Call.TheVariants.{Enter, Strike, Window, Follows}
use Rattle.session.specs.Operands.{clock_at, pair_at}
use Rattle.session.proofs.Cuts.{cut, cut_later}
use Rattle.session.proofs.reader.Commands.next_command.Goals as goal

-- whichever operands a command has, it is as wide
abbrev pair : Asked
pair = pair_at [] 0

abbrev clock : Asked
clock = clock_at [] 0

pub returns-in_err-number-in-69-clause-gives : goal.returns-in_err-number-in-69-clause-gives
returns-in_err-number-in-69-clause-gives c = cut c.args.self (Enter 0 pair) _ c.take.new.self c.in_ok-take.ensures c.in-69.is 2 _ (omega arith) c.from_residual-in_err-number-in-69.ensures.1 c.in_err-number-in-69.ensures

pub returns-in_err-pair-in-69-clause-gives : goal.returns-in_err-pair-in-69-clause-gives
returns-in_err-pair-in-69-clause-gives c = cut_later c.args.self (Enter 0 pair) _ c.take.new.self c.in_ok-take.ensures c.in-69.is 2 3 c.number.new.self _ c.in_ok-number-in-69.ensures.2 c.in_ok-number-in-69.ensures.3 (omega arith) c.from_residual-in_err-pair-in-69.ensures.1 c.in_err-pair-in-69.ensures

pub returns-in_err-number-in-67-clause-gives : goal.returns-in_err-number-in-67-clause-gives
returns-in_err-number-in-67-clause-gives c = cut c.args.self (Enter 0 clock) _ c.take.new.self c.in_ok-take.ensures c.in-67.is 2 _ (omega arith) c.from_residual-in_err-number-in-67.ensures.1 c.in_err-number-in-67.ensures

pub returns-in_err-clock-in-67-clause-gives : goal.returns-in_err-clock-in-67-clause-gives
returns-in_err-clock-in-67-clause-gives c = cut_later c.args.self (Enter 0 clock) _ c.take.new.self c.in_ok-take.ensures c.in-67.is 2 6 c.number-in-67.new.self _ c.in_ok-number-in-67.ensures.2 c.in_ok-number-in-67.ensures.3 (omega arith) c.from_residual-in_err-clock-in-67.ensures.1 c.in_err-clock-in-67.ensures

pub returns-in_err-number-in-83-clause-gives : goal.returns-in_err-number-in-83-clause-gives
returns-in_err-number-in-83-clause-gives c = cut c.args.self (Strike 0) _ c.take.new.self c.in_ok-take.ensures c.in-83.is 2 _ (omega arith) c.from_residual-in_err-number-in-83.ensures.1 c.in_err-number-in-83.ensures

pub returns-in_err-byte-in-87-clause-gives : goal.returns-in_err-byte-in-87-clause-gives
returns-in_err-byte-in-87-clause-gives c = cut c.args.self (Window 0) _ c.take.new.self c.in_ok-take.ensures c.in-87.is 1 _ (omega arith) c.from_residual-in_err-byte-in-87.ensures.1 c.in_err-byte-in-87.ensures

pub returns-in_err-pair-in-70-clause-gives : goal.returns-in_err-pair-in-70-clause-gives
returns-in_err-pair-in-70-clause-gives c = cut c.args.self (Follows pair) _ c.take.new.self c.in_ok-take.ensures c.in-70.is 3 _ (omega arith) c.from_residual-in_err-pair-in-70.ensures.1 c.in_err-pair-in-70.ensures

pub returns-in_err-clock-in-71-clause-gives : goal.returns-in_err-clock-in-71-clause-gives
returns-in_err-clock-in-71-clause-gives c = cut c.args.self (Follows clock) _ c.take.new.self c.in_ok-take.ensures c.in-71.is 6 _ (omega arith) c.from_residual-in_err-clock-in-71.ensures.1 c.in_err-clock-in-71.ensures
