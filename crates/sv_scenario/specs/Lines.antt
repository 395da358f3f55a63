-- The printed line of a fault.
use Rattle.std.specs.Prelude.{ℕ, List, [], ◌∷◌, ◌++◌, codes, decimal}
use Rattle.sv_world.specs.Faults.{cause_number}
use Rattle.sv_text.specs.declared.fault.TextCause.{TextCause}
use Rattle.sv_text.specs.declared.fault.TextCause.TheVariants as texts
use Rattle.sv_scenario.specs.declared.fault.ScenarioCause.{ScenarioCause}
use Rattle.sv_scenario.specs.declared.fault.ScenarioCause.TheVariants as causes
use Rattle.sv_scenario.specs.declared.fault.ScenarioFault.{ScenarioFault}

-- The number of a text's cause in their order, from 1.
abbrev pub text_cause_number : TextCause → ℕ
text_cause_number texts.Character = 1
text_cause_number texts.Number = 2
text_cause_number texts.Expected = 3
text_cause_number texts.NotRead = 4
text_cause_number texts.Order = 5
text_cause_number texts.TooMany = 6
text_cause_number texts.TooLarge = 7
text_cause_number texts.TooDeep = 8

abbrev pub cause_text : ScenarioCause → List ℕ
cause_text causes.Size = codes "size"
cause_text causes.Json = codes "json"
cause_text causes.Kind = codes "kind"
cause_text causes.Range = codes "range"
cause_text causes.Key = codes "key"
cause_text causes.Order = codes "order"
cause_text causes.Object = codes "object"
cause_text causes.Last = codes "last"
cause_text (causes.Text fault) = codes "text " ++ decimal fault.place ++ 32 ∷ decimal (text_cause_number fault.cause)
cause_text (causes.Action cause) = codes "action " ++ decimal (cause_number cause)

abbrev pub line_at : List ℕ → List ℕ → List ℕ
line_at path cause = codes "scenario: " ++ path ++ codes ": " ++ cause ++ 10 ∷ []

-- The path as it stands, and the cause.
abbrev pub fault_line : ScenarioFault → List ℕ
fault_line fault = line_at fault.path (cause_text fault.cause)
