-- What an answer of the program says, by the call that its words are for: the crate of each call says what its words ask, what its text tells,
-- and which line is told at which status. `contents` says what a file holds, where that is told.
use Rattle.std.specs.Prelude.{◌≡◌, ◌≢◌, ◌↔◌, ◌⊎◌, ℕ, List, Option, None, IfSome}
use Rattle.std.specs.declared.net.TcpStream.{TcpStream}
use Rattle.sv_bytes.specs.Faults.{Rose}
use Rattle.sv_link.specs.TcpEnds.{end_told, end_faults}
use Rattle.sv_door.specs.Doors.{Passage}
use Rattle.sv_link.specs.Nets.{Transcript}
use Rattle.sv_threads.specs.Moved.{Moved}
use Rattle.sv_ending.specs.Calls.{Leaves}
use Rattle.sv_ending.specs.Endings.{IsCutShort, IsPrinted}
use Rattle.sv_ending.specs.Reading.{held_by_file}
use Rattle.sv_ending.specs.Statuses.{TellsStatus}
use Rattle.sv_run.specs.Words.{asked_of as run_asked, named_by as run_named, words_line as run_words}
use Rattle.sv_run.specs.Runs.{IsTextFor as IsRunText}
use Rattle.sv_looks.specs.Words.{asked_of as looks_named, words_line as looks_words}
use Rattle.sv_looks.specs.Statuses.{IsText as IsLooksText}
use Rattle.sv_witness.specs.Words.{asked_of as witness_asked, named_by as witness_named, words_line as witness_words}
use Rattle.sv_witness.specs.Answers.{IsTextFor as IsWitnessText, TellsNumber as TellsLiar}
use Rattle.sv_serve.specs.Words.{asked_of as serve_asked, named_by as serve_named, words_line as serve_words}
use Rattle.sv_serve.specs.Statuses.{IsText as IsServeText}
use Rattle.sv_host.specs.Words.{AsksNothing as HostAsksNothing}
use Rattle.sv_host.specs.Statuses.{IsStatus as IsHostStatus}
use Rattle.sv_join.specs.Words.{asked_of as join_asked, named_by as join_named}
use Rattle.sv_join.specs.Joining.{Passed}
use Rattle.sv_join.specs.Answers.{IsTextFor as IsJoinText, TellsNumber as TellsClient, TellsPlay}
use Rattle.sv_join.specs.Statuses.{TellsStatus as JoinTells}
use Rattle.sv_audit.specs.Words.{asked_of as check_asked, scenario_named as check_named, words_line as check_words}
use Rattle.sv_audit.specs.Answers.{IsTextFor as IsCheckText, Judges}
use Rattle.sv_audit.specs.Statuses.{TellsStatus as CheckTells}
use Rattle.sv_main.specs.declared.commands.TopCall.{TopCall}
use Rattle.sv_main.specs.declared.commands.TopCall.TheVariants as commands

-- Status 2 says that the words ask nothing of their call. `host` may answer 8 there, and 2 where its world has nobody to report.
abbrev pub Knows : TopCall → List (List ℕ) → ℕ → Type 0
Knows commands.Run words status = (status ≡ 2) ↔ (run_asked words ≡ None)
Knows commands.Looks words status = (status ≡ 2) ↔ (looks_named words ≡ None)
Knows commands.Witness words status = (status ≡ 2) ↔ (witness_asked words ≡ None)
Knows commands.Serve words status = (status ≡ 2) ↔ (serve_asked words ≡ None)
Knows commands.Host words status = IsHostStatus status × (HostAsksNothing words → (status ≡ 2) ⊎ (status ≡ 8))
Knows commands.Join words status = (status ≡ 2) ↔ (join_asked words ≡ None)
Knows commands.Check words status = (status ≡ 2) ↔ (check_asked words ≡ None)

-- Statuses 4 and 5 say that a file and the output failed. `host` writes nothing to the output.
abbrev pub Faults : TopCall → (files_before files_now out_before out_now : ℕ) → ℕ → Type 0
Faults commands.Host f0 f1 o0 o1 status = o1 ≡ o0
Faults _ f0 f1 o0 o1 status = ((status ≡ 4) ↔ Rose f0 f1) × ((status ≡ 5) ↔ Rose o0 o1)

-- A whole text is printed at status 0, and a part of one at 5.
pub record Prints (IsText : List ℕ → Type 0) (old now : Option (List ℕ)) (status : ℕ) : Type 0 where
  pub whole : status ≡ 0 → IsPrinted IsText old now
  pub part : status ≡ 5 → IsCutShort IsText old now

-- What the output was given, and what the status says of what was read. A run's connections are made for it alone, so there are some of which its
-- text tells.
abbrev pub Output : TopCall → List (List ℕ) → (List ℕ → Option (List ℕ)) → (old now : Option (List ℕ)) → ℕ → Type 0
Output commands.Run words contents old now status =
    (m : Moved Transcript)
    × Leaves (IsRunText (run_asked words) (held_by_file contents (run_named (run_asked words))) m) (held_by_file contents (run_named (run_asked words))) old now status
Output commands.Looks words contents old now status =
    Leaves (IsLooksText (held_by_file contents (looks_named words))) (held_by_file contents (looks_named words)) old now status
Output commands.Witness words contents old now status =
    Leaves (IsWitnessText (witness_asked words) (held_by_file contents (witness_named (witness_asked words)))) (held_by_file contents (witness_named (witness_asked words))) old now status
    × IfSome (witness_asked words) (λ a. TellsLiar a (contents a.file) status)
Output commands.Serve words contents old now status =
    (m : Moved Passage)
    × Leaves (IsServeText (held_by_file contents (serve_named (serve_asked words))) m) (held_by_file contents (serve_named (serve_asked words))) old now status
Output commands.Host words contents old now status = now ≡ old
Output commands.Join words contents old now status =
    (door : Passed) × (before : ℕ) × (after : ℕ)
    × Leaves (IsJoinText (end_told {S = TcpStream}) end_faults (λ _. ⊥) (join_asked words) (held_by_file contents (join_named (join_asked words))) door)
    (held_by_file contents (join_named (join_asked words))) old now status
    × IfSome (join_asked words) (λ a. TellsClient a (contents a.file) status)
    × IfSome (join_asked words) (λ a. TellsPlay (end_told {S = TcpStream}) end_faults (λ _. ⊥) a (contents a.file) door before after status)
Output commands.Check words contents old now status =
    Leaves (IsCheckText (check_asked words) contents) (held_by_file contents (check_named (check_asked words))) old now status
    × IfSome (check_asked words) (λ a. Judges (contents a.scenario) (contents a.report) a.question status)

-- The line that is told beside the output, and nothing else, where `old` and `now` are what was told before and after, and `before` and `after`
-- how often that failed. What `host` tells, its own crate says.
abbrev pub Line : TopCall → List (List ℕ) → (sure : List ℕ → Type 0) (contents : List ℕ → Option (List ℕ)) → (old now : Option (List ℕ)) (before after : ℕ) → ℕ → Type 0
Line commands.Run words sure contents old now before after status =
    TellsStatus run_words status (held_by_file contents (run_named (run_asked words))) (run_named (run_asked words)) old now before after
Line commands.Looks words sure contents old now before after status =
    TellsStatus looks_words status (held_by_file contents (looks_named words)) (looks_named words) old now before after
Line commands.Witness words sure contents old now before after status =
    TellsStatus witness_words status (held_by_file contents (witness_named (witness_asked words))) (witness_named (witness_asked words)) old now before after
Line commands.Serve words sure contents old now before after status =
    TellsStatus serve_words status (held_by_file contents (serve_named (serve_asked words))) (serve_named (serve_asked words)) old now before after
Line commands.Host words sure contents old now before after status = Unit {0}
Line commands.Join words sure contents old now before after status = (door : Passed)
    × JoinTells (end_told {S = TcpStream}) end_faults (λ _. ⊥) (join_asked words) (held_by_file contents (join_named (join_asked words))) (join_named (join_asked words)) door
    status old now before after
Line commands.Check words sure contents old now before after status =
    CheckTells sure contents (check_words words) (check_asked words) status old now before after
