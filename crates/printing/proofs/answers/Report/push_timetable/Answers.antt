use Rattle.printing.proofs.Parts.{front_printable}
use Rattle.printing.proofs.answers.Report.push_timetable.Goals as goal

pub push_times-requires-clause-printable : goal.push_times-requires-clause-printable
push_times-requires-clause-printable g c = rw c.as_slice.ensures.value (front_printable g.S.OrderedSums c.args.self.now.devices c.args.self.now.step.now.times.items c.requires.timed)
