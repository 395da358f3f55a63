-- The loop invariant of `put_more_results`.
use Rattle.std.proofs.Common.{◌≡◌, ◌∷◌, ◌++◌, string_bytes, drop}
use Rattle.std.specs.List.{flat_map}
use Rattle.sv_wire.specs.declared.message.Done1.{Done1}
use Rattle.sv_journal.specs.Pieces.{result_text}
use Rattle.sv_journal.proofs.requests.put_more_results.Given as goal

-- the text so far and that of the results left are the whole
abbrev pub invariant-loop-done : goal.invariant-loop-done
invariant-loop-done l = string_bytes l.out ++ flat_map (λ (d : Done1). 32 ∷ result_text d) (drop l.done-index l.results)
    ≡ string_bytes l.fn.out ++ flat_map (λ (d : Done1). 32 ∷ result_text d) l.results
