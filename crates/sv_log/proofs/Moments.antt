-- How runs of calls join, and what a crash leaves at each moment of them.
use Rattle.std.proofs.Common.{◌≡◌, ⊎_elim, Bool, List, [], ◌∷◌, ◌++◌, true, false, Result, Ok, Err, sym, ◌∙◌, ap, subst, append_assoc}
use Rattle.sv_log.specs.Pictures.{Picture, Call, Made, Disk, noted, Makes}
use Rattle.sv_log.specs.Crashes.{CrashLeaves, CrashMayLeave, EachLeaves, LeavesOnly}

each_joined : (start : Picture) (before first second : List Made) (P : Picture → Type 0) → EachLeaves start before first P → EachLeaves start (first ++ before) second P → EachLeaves start before (second ++ first) P
each_joined start before first [] P f g = f
each_joined start before first (made ∷ second) P f g = (
  (λ c h. g.0 c (subst (λ (l : List Made). CrashLeaves start (made ∷ l) c) (append_assoc second first before) h)),
  each_joined start before first second P f g.1,
)

-- one run, and then another
pub then_only : (a b c : Disk) (P : Picture → Type 0) → LeavesOnly a b P → LeavesOnly b c P → LeavesOnly a c P
then_only a b c P f g = record {
  later = g.later ++ f.later;
  start = g.start ∙ f.start;
  grew = g.grew ∙ ap (λ (l : List Made). g.later ++ l) f.grew ∙ sym (append_assoc g.later f.later a.past);
  now = f.now;
  each = each_joined a.start a.past f.later g.later P f.each
      (subst (λ (s : Picture). EachLeaves s (f.later ++ a.past) g.later P) f.start (subst (λ (l : List Made). EachLeaves b.start l g.later P) f.grew g.each));
}

each_weaker : (start : Picture) (before later : List Made) (P Q : Picture → Type 0) → ((c : Picture) → P c → Q c) → EachLeaves start before later P → EachLeaves start before later Q
each_weaker start before [] P Q h each = tt
each_weaker start before (made ∷ later) P Q h each = ((λ c left. h c (each.0 c left)), each_weaker start before later P Q h each.1)

pub weaker_only : (a b : Disk) (P Q : Picture → Type 0) → ((c : Picture) → P c → Q c) → LeavesOnly a b P → LeavesOnly a b Q
weaker_only a b P Q h only = record {
  later = only.later;
  start = only.start;
  grew = only.grew;
  now = λ c left. h c (only.now c left);
  each = each_weaker a.start a.past only.later P Q h only.each;
}

pub same_only : (old new : Disk) (P : Picture → Type 0) → new ≡ old → ((c : Picture) → CrashLeaves old.start old.past c → P c) → LeavesOnly old new P
same_only old new P is now = record {
  later = [];
  start = ap (λ (d : Disk). d.start) is;
  grew = ap (λ (d : Disk). d.past) is;
  now = now;
  each = tt;
}

noted_only : (old new : Disk) (call : Call) (done : Bool) (P : Picture → Type 0) → new ≡ noted (call, done) old → ((c : Picture) → CrashLeaves old.start old.past c → P c)
    → ((c d : Picture) → CrashLeaves old.start old.past d → CrashMayLeave call d c → P c) → LeavesOnly old new P
noted_only old new call done P is now next = record {
  later = (call, done) ∷ [];
  start = ap (λ (d : Disk). d.start) is;
  grew = ap (λ (d : Disk). d.past) is;
  now = now;
  each = ((λ c left. next c left.0 left.1 left.2), tt);
}

-- one call, however it was answered
pub made_only : {T E : Type 0} (old new : Disk) (call : Call) (result : Result T E) (P : Picture → Type 0) → Makes call old new result → ((c : Picture) → CrashLeaves old.start old.past c → P c)
    → ((c d : Picture) → CrashLeaves old.start old.past d → CrashMayLeave call d c → P c) → LeavesOnly old new P
made_only old new call (Ok x) P makes now next = noted_only old new call true P makes now next
made_only old new call (Err e) P makes now next = ⊎_elim (λ is. same_only old new P is now) (λ is. noted_only old new call false P is now next) makes
