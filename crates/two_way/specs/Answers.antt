-- What the code's answer stands for.
use Rattle.std.specs.Prelude.{Result, Ok, Err}
use Rattle.refusal.specs.Refused.{refusal_of}
use Rattle.refusal.specs.declared.Refusal.{Refusal}
use Rattle.two_way.specs.Quick.{Quick, ruled, turned}
use Rattle.two_way.specs.declared.Rule.{Rule}

abbrev pub quick_answer_of : Result Rule Refusal → Quick
quick_answer_of (Ok rule) = ruled rule.holds rule.n rule.least
quick_answer_of (Err r) = turned (refusal_of r)
