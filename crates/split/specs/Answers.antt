-- What the code's answer stands for.
use Rattle.std.specs.Prelude.{Option, Some, None, Result, Ok, Err}
use Rattle.refusal.specs.Refused.{refusal_of}
use Rattle.refusal.specs.declared.Refusal.{Refusal}
use Rattle.split.specs.Split.{Split, good, bad, unread}
use Rattle.split.specs.declared.Split as Code

-- no split, or the first bad one
abbrev pub found_of : Option Code.Split → Split
found_of None = good
found_of (Some x) = bad x.f x.l x.c x.r

abbrev pub split_answer_of : Result (Option Code.Split) Refusal → Split
split_answer_of (Ok found) = found_of found
split_answer_of (Err r) = unread (refusal_of r)
