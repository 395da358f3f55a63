-- The counts of faults, and the output by what was made.
use Rattle.std.proofs.Common.{refl, string_bytes}
use Rattle.sv_ending.proofs.Counts.{wrote, broke}
use Rattle.sv_serve.proofs.Endings.{printed_given, cut_given, early_given, untouched_back, unprinted_back}
use Rattle.sv_serve.proofs.top.decide.Goals as goal

pub returns-in-Ok-clause-raises : goal.returns-in-Ok-clause-raises
returns-in-Ok-clause-raises g c = wrote _ _ _ _ _ _ _ _ c.if-write_all.ensures.cause (c.in-Ok.ensures.raises _)

pub returns-in-Ok-2-clause-raises : goal.returns-in-Ok-2-clause-raises
returns-in-Ok-2-clause-raises g c = (c.if-write_all.ensures.cause, broke _ _ _ _ _ _ _ _ (c.in-Ok.ensures.raises (g.K.Sink.faults c.args.out.now)))

pub returns-in-Err-clause-raises : goal.returns-in-Err-clause-raises
returns-in-Err-clause-raises g c = c.in-Err.ensures.raises _

pub returns-in-Ok-clause-ends : goal.returns-in-Ok-clause-ends
returns-in-Ok-clause-ends g c =
    printed_given (g.F.Files.contents c.args.files.now) _ _ c.in-Some.command c.in-Some.is (string_bytes c.in-Ok.text) c.as_bytes.result.now _ _
    c.as_bytes.ensures.value c.in-Ok.ensures.made c.if-write_all.ensures.whole

pub returns-in-Ok-2-clause-ends : goal.returns-in-Ok-2-clause-ends
returns-in-Ok-2-clause-ends g c =
    cut_given (g.F.Files.contents c.args.files.now) _ _ c.in-Some.command c.in-Some.is (string_bytes c.in-Ok.text) c.as_bytes.result.now _ _
    c.as_bytes.ensures.value c.in-Ok.ensures.made c.if-write_all.ensures.part

pub returns-in-Err-clause-ends : goal.returns-in-Err-clause-ends
returns-in-Err-clause-ends g c =
    early_given (g.F.Files.contents c.args.files.now) _ _ c.in-Some.command c.in-Some.is _ c.in-Err.ending c.in-Err.ensures.made

pub returns-in_default-clause-back : goal.returns-in_default-clause-back
returns-in_default-clause-back g c = untouched_back _ _ _ _ refl

pub returns-in-Ok-2-clause-back : goal.returns-in-Ok-2-clause-back
returns-in-Ok-2-clause-back g c = unprinted_back _ _ _ _ c.in-Ok.ensures.back
