-- The lines of a journal as they are served, and where they differ from those that are printed. Entries stand in order here.
use Rattle.std.proofs.Common.{◌≡◌, ℕ, zero, suc, ◌+◌, ◌^◌, ◌<◌, ◌≤◌, Bool, true, false, List, [], ◌∷◌, ◌++◌, length, reverse, drop, Some, None, Result, Ok, Err, refl, sym, ap, ap₂, subst, ◌∙◌, arith, append_assoc, append-nil, length-append}
use Rattle.std.specs.Prelude.{◌≢◌, codes, IfErr}
use Rattle.std.specs.Fmt.{decimal}
use Rattle.std.specs.List.{AllByRecursion}
use Rattle.std.proofs.lemmas.List.{drop_all, reverse-append}
use Rattle.std.proofs.lemmas.Option.{none-some, same_Some}
use Rattle.sv_world.specs.declared.world.Shape.{Shape}
use Rattle.sv_wire.specs.declared.message.Request.{Request}
use Rattle.sv_wire.specs.declared.message.Request.TheVariants as requests
use Rattle.sv_wire.specs.Ranges.{RequestFits}
use Rattle.sv_journal.specs.declared.entry.Entry.{Entry}
use Rattle.sv_journal.specs.declared.entry.Logged.{Logged}
use Rattle.sv_journal.specs.History.{accepted}
use Rattle.sv_journal.specs.Answer.{Rules, MayBeSession, reply_to}
use Rattle.sv_journal.specs.Laws.{FullRepliesStay, LegalRelaysNameAccepted}
use Rattle.sv_journal.specs.Sessions.{is_end, is_ended}
use Rattle.sv_journal.specs.Text.{entry_line, entry_lines, journal_text, reply_text}
use Rattle.sv_journal.specs.History.{entry_of}
use Rattle.sv_scenario.specs.declared.scenario.Scenario.{Scenario}
use Rattle.sv_scenario.specs.Sessions.{session_count}
use Rattle.law_system.specs.Records.{rules_of}
use Rattle.sv_lines.specs.declared.request.Asked.{Asked}
use Rattle.sv_lines.specs.declared.stop.LineFault.{LineFault}
use Rattle.sv_lines.specs.declared.stop.LineFault.TheVariants as unread
use Rattle.sv_lines.specs.declared.stop.LineStop.{LineStop}
use Rattle.sv_lines.specs.declared.stop.LineStop.TheVariants as stop
use Rattle.sv_lines.specs.Lines.{line_width, after_lines, Differs, StopsAt}
use Rattle.sv_lines.specs.Reading.{Gives, behind_front, number_read}
use Rattle.sv_lines.specs.Told.{IsTold, asking_text}
use Rattle.sv_lines.proofs.Numerals.{front_there, number_is_read}
use Rattle.sv_lines.proofs.EntryLines.{then_inner, inner_decimal, behind_first, line_asks, after_entries_and, differs_at}
use Rattle.sv_check.specs.Parts.{IsEntryAfter, AreEntries}
use Rattle.sv_check.specs.Stopping.{IfWrong}
use Rattle.sv_check.specs.declared.journal.Served.{Served}
use Rattle.sv_check.specs.Serving.{IsServed, entries_of}
use Rattle.sv_check.specs.Entering.{ServedOne, HasServed, header_text, NoHeader, lines_of, line_after, TellsEntry, NoEntry, EntriesAreTold, TextBreaksOff}
use Rattle.sv_check.proofs.Entries.{AreEntriesAfter, turned_more}
use Rattle.sv_check.proofs.Journals.{after_none}
use Rattle.sv_check.proofs.JournalParts.{line_stays, line_is_after, first_right}

-- ---- The first line

header_parts : (count : ℕ) (rest : List ℕ) → header_text count ++ rest ≡ codes "journal " ++ (decimal count ++ 10 ∷ rest)
header_parts count rest = append_assoc (codes "journal " ++ decimal count) (10 ∷ []) rest ∙ append_assoc (codes "journal ") (decimal count) (10 ∷ rest)

header_begins : (text : List ℕ) (count : ℕ) (rest : List ℕ) → text ≡ header_text count ++ rest → behind_front (codes "journal ") text ≡ Some (decimal count ++ 10 ∷ rest)
header_begins text count rest is =
    ap (behind_front (codes "journal ")) (is ∙ header_parts count rest) ∙ front_there (codes "journal ") (decimal count ++ 10 ∷ rest)

-- A text that does not begin so has no such line.
pub header_missing : (text : List ℕ) → None ≡ behind_front (codes "journal ") text → (count : ℕ) (rest : List ℕ) → text ≡ header_text count ++ rest → ⊥
header_missing text missing count rest is = none-some (decimal count ++ 10 ∷ rest) (missing ∙ header_begins text count rest is)

-- The number is read.
pub header_number : (text r : List ℕ) → Some r ≡ behind_front (codes "journal ") text → (count : ℕ) (rest : List ℕ) → count < 2 ^ 32 → text ≡ header_text count ++ rest →
    number_read (2 ^ 32) r ≡ Some (count, 10 ∷ rest)
header_number text r found count rest low is =
    let same : r ≡ decimal count ++ 10 ∷ rest = same_Some r (decimal count ++ 10 ∷ rest) (found ∙ header_begins text count rest is) in
    ap (number_read (2 ^ 32)) same ∙ number_is_read (2 ^ 32) (omega arith) count (10 ∷ rest) low refl

pub header_told : (text r : List ℕ) → Some r ≡ behind_front (codes "journal ") text → (n : ℕ) (z : List ℕ) → number_read (2 ^ 32) r ≡ Some (n, z) → (count : ℕ) (rest : List ℕ) → count < 2 ^ 32 →
    text ≡ header_text count ++ rest → Some n ≡ Some count
header_told text r found n z read count rest low is =
    let one : ℕ × List ℕ = (n, z) in
    let other : ℕ × List ℕ = (count, 10 ∷ rest) in
    let same : one ≡ other = same_Some one other (sym read ∙ header_number text r found count rest low is) in
    ap (λ (q : ℕ × List ℕ). Some q.0) same

pub header_unread : (text r : List ℕ) → Some r ≡ behind_front (codes "journal ") text → None ≡ number_read (2 ^ 32) r → (count : ℕ) (rest : List ℕ) → count < 2 ^ 32 → text ≡ header_text count ++ rest → ⊥
header_unread text r found unread count rest low is =
    let other : ℕ × List ℕ = (count, 10 ∷ rest) in
    none-some other (unread ∙ header_number text r found count rest low is)

-- Where the number is known, and the text does not begin with its line, it begins with no such line.
pub no_header : (text line : List ℕ) (n : ℕ) → ((count : ℕ) (rest : List ℕ) → count < 2 ^ 32 → text ≡ header_text count ++ rest → Some n ≡ Some count) → line ≡ header_text n →
    ((rest : List ℕ) → text ≢ line ++ rest) → NoHeader text
no_header text line n told is differs count rest low same =
    differs rest (same ∙ ap (λ (k : ℕ). header_text k ++ rest) (sym (same_Some n count (told count rest low same))) ∙ ap (λ (l : List ℕ). l ++ rest) (sym is))

-- ---- The lines that were served

after_more : (n : ℕ) (text : List ℕ) → after_lines (suc n) text ≡ drop (line_width (after_lines n text)) (after_lines n text)
after_more zero text = refl
after_more (suc n) text = after_more n (drop (line_width text) text)

pub told_more : (scenario : Scenario) (before entries : List Entry) (d : Entry) (text : List ℕ) → EntriesAreTold scenario before entries text →
    TellsEntry scenario (before ++ entries) d (after_lines (length entries) text) → EntriesAreTold scenario before (entries ++ d ∷ []) text
told_more scenario before [] d text told tells = (subst (λ (l : List Entry). TellsEntry scenario l d text) (append-nil before) tells, tt)
told_more scenario before (e ∷ entries) d text told tells =
    let behind = drop (line_width text) text in (
      told.0,
      told_more scenario (before ++ e ∷ []) entries d behind told.1
          (subst (λ (l : List Entry). TellsEntry scenario l d (after_lines (length entries) behind)) (sym (append_assoc before (e ∷ []) entries)) tells),
    )

pub told_at : (scenario : Scenario) (before front : List Entry) (d : Entry) (more : List Entry) (text : List ℕ) → EntriesAreTold scenario before (front ++ d ∷ more) text →
    TellsEntry scenario (before ++ front) d (after_lines (length front) text)
told_at scenario before [] d more text told = subst (λ (l : List Entry). TellsEntry scenario l d text) (sym (append-nil before)) told.0
told_at scenario before (e ∷ front) d more text told =
    let behind = drop (line_width text) text in
    subst (λ (l : List Entry). TellsEntry scenario l d (after_lines (length front) behind)) (append_assoc before (e ∷ []) front)
    (told_at scenario (before ++ e ∷ []) front d more behind told.1)

-- One line more was served.
pub after_one : (entries more : List Entry) (d : Entry) (text rest next : List ℕ) → more ≡ entries ++ d ∷ [] → rest ≡ after_lines (length entries) text → next ≡ drop (line_width rest) rest →
    next ≡ after_lines (length more) text
after_one entries more d text rest next is at behind =
    let size : length more ≡ suc (length entries) = ap length is ∙ one_longer entries in
    behind ∙ ap (λ (l : List ℕ). drop (line_width l) l) at ∙ sym (after_more (length entries) text) ∙ ap (λ (n : ℕ). after_lines n text) (sym size)
  where
    one_longer : (es : List Entry) → length (es ++ d ∷ []) ≡ suc (length es)
    one_longer [] = refl
    one_longer (e ∷ es) = ap suc (one_longer es)

-- So many lines of the text were served, and the rest comes next.
pub record IsServing (scenario : Scenario) (served : Served) (text rest : List ℕ) (count : ℕ) : Type 0 where
  pub is : IsServed scenario served
  pub told : EntriesAreTold scenario [] (entries_of served) text
  pub behind : rest ≡ after_lines (length (entries_of served)) text
  pub size : length (entries_of served) ≡ count

-- One line more.
pub serving_more : (scenario : Scenario) (old new : Served) (text rest next : List ℕ) (count : ℕ) (is : Bool) → IsServing scenario old text rest count → IsServed scenario new →
    is ≡ true → HasServed scenario old new rest is → next ≡ drop (line_width rest) rest → IsServing scenario new text next (count + 1)
serving_more scenario old new text rest next count is so_far g so has drops =
    let one : ServedOne scenario old new rest = subst (HasServed scenario old new rest) so has in
    let tells = subst (TellsEntry scenario (entries_of old) one.entry) so_far.behind one.tells in
    let longer = length-append (entries_of old) (one.entry ∷ []) in
    let size = so_far.size in
    let grown : length (entries_of new) ≡ length (entries_of old ++ one.entry ∷ []) = ap length one.more in
    record {
      is = g;
      told = subst (λ (es : List Entry). EntriesAreTold scenario [] es text) (sym one.more) (told_more scenario [] (entries_of old) one.entry text so_far.told tells);
      behind = after_one (entries_of old) (entries_of new) one.entry text rest next one.more so_far.behind drops;
      size = omega (arith, longer, size, grown);
    }

-- ---- What a line asks

-- What is read of the text, which tells the request of an entry with whose line it begins.
abbrev pub ReadsAsked : Shape → List ℕ → Result Asked LineFault → Type 0
ReadsAsked shape text read = (n session : ℕ) (request : Request) (reply : List ℕ) → n < 2 ^ 32 → session < 2 ^ 16 → IsTold shape request →
    text ≡ asking_text shape n session request ++ reply → Gives {Y = ℕ × Request} (λ (asked : Asked). (asked.session, asked.request)) read (Some (session, request))

module _ (scenario : Scenario) (few : session_count scenario ≤ 64) (entries : List Entry) (small : 1 + length entries < 2 ^ 32) (text : List ℕ) where
  read_of : (read : Result Asked LineFault) → ReadsAsked scenario.world.shape text read → (e : Entry) (rest : List ℕ) → IsEntryAfter scenario (reverse entries) e →
      text ≡ line_after scenario.world.shape entries e ++ rest → Gives {Y = ℕ × Request} (λ (asked : Asked). (asked.session, asked.request)) read (Some (e.session, e.request))
  read_of read reads e rest right is =
      let shape = scenario.world.shape in
      let A = accepted (e ∷ reverse entries) in
      let n = 1 + length entries in
      let reply = reply_text A e.reply ++ 10 ∷ [] in
      let low = right.session in
      reads n e.session e.request (reply ++ rest) small (omega (arith, few, low)) right.told
      (is ∙ ap (λ (l : List ℕ). l ++ rest) (line_asks shape A n e) ∙ append_assoc (asking_text shape n e.session e.request) reply rest)

  same_asked : (asked : Asked) → ReadsAsked scenario.world.shape text (Ok asked) → (e : Entry) (rest : List ℕ) → IsEntryAfter scenario (reverse entries) e →
      text ≡ line_after scenario.world.shape entries e ++ rest → ◌≡◌ {A = ℕ × Request} (e.session, e.request) (asked.session, asked.request)
  same_asked asked reads e rest right is =
      let one : ℕ × Request = (e.session, e.request) in
      let other : ℕ × Request = (asked.session, asked.request) in
      same_Some one other (read_of (Ok asked) reads e rest right is)

  -- The entry of what was read is the one that the text tells.
  pub asked_tells : (asked : Asked) → ReadsAsked scenario.world.shape text (Ok asked) →
      TellsEntry scenario entries (entry_of asked.session asked.request (reply_to (rules_of scenario) (reverse entries) asked.session asked.request)) text
  asked_tells asked reads e rest right is =
      let answered : ℕ × Request → Entry = λ (x : ℕ × Request). entry_of x.0 x.1 (reply_to (rules_of scenario) (reverse entries) x.0 x.1) in
      ap (λ (w : Logged). entry_of e.session e.request w) right.reply ∙ ap answered (same_asked asked reads e rest right is)

  -- Where its request may not be asked, the text tells no entry.
  pub asked_none : (rules : Rules) → rules ≡ rules_of scenario → (asked : Asked) → ReadsAsked scenario.world.shape text (Ok asked) →
      (MayBeSession rules.sessions asked.session → (is_end asked.request ≡ true → is_ended (reverse entries) asked.session ≡ false) → ⊥) → NoEntry scenario entries text
  asked_none rules of_it asked reads refused e rest right is =
      let same = same_asked asked reads e rest right is in
      let may : ℕ × Request → Type 0 = λ (x : ℕ × Request). (x.0 < session_count scenario) × (is_end x.1 ≡ true → is_ended (reverse entries) x.0 ≡ false) in
      let here : may (e.session, e.request) = (right.session, right.once) in
      let it : may (asked.session, asked.request) = subst may same here in
      refused (subst (λ (r : Rules). MayBeSession r.sessions asked.session) (sym of_it) it.0) it.1

  -- Where nothing was read, the text tells no entry.
  pub unread_none : (read : Result Asked LineFault) (e : LineFault) → read ≡ Err e → e ≡ unread.Wrong → ReadsAsked scenario.world.shape text read → NoEntry scenario entries text
  unread_none read e failed wrong reads d rest right is =
      let missing : Result Asked LineFault → Type 0 = λ (r : Result Asked LineFault).
      Gives {Y = ℕ × Request} (λ (asked : Asked). (asked.session, asked.request)) r (Some (d.session, d.request)) in
      let one : ℕ × Request = (d.session, d.request) in
      none-some one (sym (subst missing failed (read_of read reads d rest right is) wrong))

-- ---- What is printed

pub told_fits : (shape : Shape) (r : Request) → IsTold shape r → RequestFits r
told_fits shape (requests.Join client life interest) t = t
told_fits shape (requests.Submit seq action) t = t.0
told_fits shape (requests.Done results) t = t
told_fits shape requests.Poll t = t
told_fits shape (requests.Observe objects wait) t = t
told_fits shape requests.Leave t = t
told_fits shape requests.Bad t = absurd t
told_fits shape requests.End t = t

after_fit : (scenario : Scenario) (es k : List Entry) → AreEntriesAfter scenario k es → AllByRecursion (λ (e : Entry). RequestFits e.request) es
after_fit scenario [] k a = tt
after_fit scenario (e ∷ es) k a = (told_fits scenario.world.shape e.request a.0.told, after_fit scenario es (e ∷ k) a.1)

all_fit : (scenario : Scenario) (es : List Entry) → AreEntries scenario (reverse es) → AllByRecursion (λ (e : Entry). RequestFits e.request) es
all_fit scenario es a = after_fit scenario es [] (after_none scenario es a)

-- The printed lines, behind the first one.
pub printed_lines : (shape : Shape) (es : List Entry) → drop (line_width (journal_text shape es)) (journal_text shape es) ≡ lines_of shape es
printed_lines shape es = behind_first (codes "journal " ++ decimal (length es)) (lines_of shape es) (then_inner (codes "journal ") (decimal (length es)) refl (inner_decimal (length es)))

-- Behind the lines of entries.
pub behind_all : (scenario : Scenario) (es : List Entry) (rest : List ℕ) → AreEntries scenario (reverse es) → after_lines (length es) (lines_of scenario.world.shape es ++ rest) ≡ rest
behind_all scenario es rest a =
    let A = accepted (reverse es) in
    let shape = scenario.world.shape in
    let most : length es ≤ length es = omega arith in
    after_entries_and shape A (length es) 1 es rest (all_fit scenario es a) most
    ∙ ap (λ (l : List Entry). entry_lines shape A (1 + length es) l ++ rest) (drop_all (length es) es most)

module _ (stay : FullRepliesStay) (names : LegalRelaysNameAccepted) (scenario : Scenario) where
  abbrev form : Shape
  form = scenario.world.shape

  -- The lines of some first entries are the same among the accepted actions of all.
  lines_stay : (es k later : List Entry) (n : ℕ) → AreEntries scenario k → AreEntriesAfter scenario k es →
      entry_lines form (accepted (later ++ (reverse es ++ k))) n es ≡ entry_lines form (accepted (reverse es ++ k)) n es
  lines_stay [] k later n a b = refl
  lines_stay (e ∷ es) k later n a b =
      let right : AreEntries scenario (e ∷ k) = (b.0, a) in
      let turned = turned_more e es k in
      let far : later ++ (reverse (e ∷ es) ++ k) ≡ (later ++ reverse es) ++ (e ∷ k) = ap (λ (l : List Entry). later ++ l) turned ∙ sym (append_assoc later (reverse es) (e ∷ k)) in
      let one : entry_line form (accepted (later ++ (reverse (e ∷ es) ++ k))) n e ≡ entry_line form (accepted (reverse (e ∷ es) ++ k)) n e =
      ap (λ (h : List Entry). entry_line form (accepted h) n e) far ∙ line_stays stay names scenario n e (later ++ reverse es) k right
      ∙ sym (line_stays stay names scenario n e (reverse es) k right) ∙ ap (λ (h : List Entry). entry_line form (accepted h) n e) (sym turned) in
      let others : entry_lines form (accepted (later ++ (reverse (e ∷ es) ++ k))) (n + 1) es ≡ entry_lines form (accepted (reverse (e ∷ es) ++ k)) (n + 1) es =
      ap (λ (h : List Entry). entry_lines form (accepted (later ++ h)) (n + 1) es) turned ∙ lines_stay es (e ∷ k) later (n + 1) right b.1
      ∙ ap (λ (h : List Entry). entry_lines form (accepted h) (n + 1) es) (sym turned) in
      ap₂ (λ (x y : List ℕ). x ++ y) one others

  pub front_lines : (front more : List Entry) → AreEntries scenario (reverse front) → entry_lines form (accepted (reverse (front ++ more))) 1 front ≡ lines_of form front
  front_lines front more a =
      let plain = append-nil (reverse front) in
      ap (λ (h : List Entry). entry_lines form (accepted h) 1 front) (reverse-append front more ∙ ap (λ (h : List Entry). reverse more ++ h) (sym plain))
      ∙ lines_stay front [] (reverse more) 1 tt (after_none scenario front a) ∙ ap (λ (h : List Entry). entry_lines form (accepted h) 1 front) plain

  -- Where the text differs from the printed lines.
  pub breaks_off : (es : List Entry) (text : List ℕ) (left : ℕ) → AreEntries scenario (reverse es) → Differs text (lines_of form es) left → TextBreaksOff form es text left
  breaks_off es text left a d =
      let at = differs_at form (accepted (reverse es)) 1 es text left (all_fit scenario es a) d in
      let all : AreEntries scenario (reverse (at.before ++ at.entry ∷ at.behind)) = subst (λ (l : List Entry). AreEntries scenario (reverse l)) at.entries a in
      let front = first_right stay names scenario at.before at.behind at.entry all in
      record {
        front = at.before;
        next = at.entry;
        more = at.behind;
        rest = at.after;
        entries_are = at.entries;
        text_is = at.text_is ∙ ap (λ (l : List ℕ). l ++ at.after)
            (ap (λ (l : List Entry). entry_lines form (accepted (reverse l)) 1 at.before) at.entries ∙ front_lines at.before (at.entry ∷ at.behind) front.1);
        other = λ after same. at.differ after (same ∙ ap (λ (l : List ℕ). l ++ after)
            (sym (ap (λ (l : List Entry). entry_line form (accepted (reverse l)) (1 + length at.before) at.entry) at.entries ∙ line_is_after stay names scenario at.before at.behind at.entry all)));
        left_is = at.left_is;
      }

  pub broken_result : {B : Type 0} (r : Result B LineStop) (es : List Entry) (text lines : List ℕ) → AreEntries scenario (reverse es) → lines ≡ lines_of form es → IfErr r (λ e. StopsAt text lines e) →
      IfWrong r (TextBreaksOff form es text)
  broken_result (Ok x) es text lines a is d = tt
  broken_result (Err (stop.Wrong left)) es text lines a is d = breaks_off es text left a (subst (λ (l : List ℕ). Differs text l left) is d)
  broken_result (Err stop.Memory) es text lines a is d = tt

  -- The entry that breaks off is none that the text tells.
  pub broken_none : (es : List Entry) (text : List ℕ) (left : ℕ) → AreEntries scenario (reverse es) → EntriesAreTold scenario [] es text → (b : TextBreaksOff form es text left) →
      NoEntry scenario b.front b.rest
  broken_none es text left a told b e rest right is =
      let all : AreEntries scenario (reverse (b.front ++ b.next ∷ b.more)) = subst (λ (l : List Entry). AreEntries scenario (reverse l)) b.entries_are a in
      let front = first_right stay names scenario b.front b.more b.next all in
      let at = told_at scenario [] b.front b.next b.more text (subst (λ (l : List Entry). EntriesAreTold scenario [] l text) b.entries_are told) in
      let here : TellsEntry scenario b.front b.next b.rest = subst (TellsEntry scenario b.front b.next)
      (ap (λ (l : List ℕ). after_lines (length b.front) l) b.text_is ∙ behind_all scenario b.front b.rest front.1) at in
      let same : e ≡ b.next = here e rest right is in
      b.other rest (is ∙ ap (λ (d : Entry). line_after form b.front d ++ rest) same)
