-- What a started thread promises.
use Rattle.std.specs.declared.thread.PromisedHandle.{PromisedHandle}
use Rattle.sv_link.specs.declared.starting.JobKept.{JobKept}

-- the job that a thread was started with
abbrev pub promised : {T J : Type 0} → PromisedHandle T (JobKept J T) → J
promised handle = handle.promise.0.value
