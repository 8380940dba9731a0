-- What the numbers that cross to C stand for. Assumes nothing.
use Rattle.std.specs.Prelude.{ℕ, Bool, cond, is_some, unwrap_or, Some, None, Option, ◌==◌}
use Rattle.faults.specs.Records.{kind_of}
use Rattle.tokens.specs.declared.Kind.{Kind}
use Rattle.tokens.specs.declared.Kind.TheVariants.{Undetermined, Str, NoSubstitutionTemplate, TemplateHead, TemplateMiddle, TemplateTail}
use Rattle.look.specs.declared.answer.Scan.{Scan}
use Rattle.look.specs.declared.answer.Scan.TheVariants as scan
use Rattle.look.specs.declared.answer.Look.{Look}
use Rattle.ledger.specs.Calls as ask
use Rattle.nethrawf.specs.declared.forms.Request.{Request}
use Rattle.nethrawf.specs.declared.forms.Response.{Response}
use Rattle.nethrawf.specs.declared.forms.Seen.{Seen}

abbrev pub kind_number : Kind → ℕ
kind_number Undetermined = 0
kind_number Str = 1
kind_number NoSubstitutionTemplate = 2
kind_number TemplateHead = 3
kind_number TemplateMiddle = 4
kind_number TemplateTail = 5

abbrev pub flag : Bool → ℕ
flag b = cond b 1 0

-- the scan of a number
abbrev pub scan_numbered : ℕ → Option Scan
scan_numbered n = cond (n == 0) (Some scan.Str) (cond (n == 1) (Some scan.Template) (cond (n == 2) (Some scan.Resumption) None))

-- the call that a request asks for, if it asks for one
abbrev pub asks : Request → Option ask.Call
asks q =
    cond (q.what == 0) (Some (ask.scan ask.string q.start))
    (cond (q.what == 1) (Some (ask.scan ask.template q.start))
    (cond (q.what == 2) (Some (ask.scan ask.resumption q.start))
    (cond (q.what == 3) (Some (ask.value q.start))
    (cond (q.what == 4) (Some (ask.unit q.start q.index))
    (cond (q.what == 5) (Some ask.fault_count)
    (cond (q.what == 6) (Some (ask.fault_at q.index))
    None))))))

-- a reply as it is written down
abbrev pub written : ask.Reply → Response
written (ask.token t) = record { refusal = 0; kind = kind_number t.kind; mark = flag t.escaped; first = t.start; second = t.end }
written (ask.valued c n) = record { refusal = 0; kind = 0; mark = flag c; first = n; second = 0 }
written (ask.united u) = record { refusal = 0; kind = 0; mark = 0; first = u; second = 0 }
written (ask.counted n) = record { refusal = 0; kind = 0; mark = 0; first = n; second = 0 }
written (ask.faulted f) = record { refusal = 0; kind = kind_of f.kind; mark = 0; first = f.from; second = f.to }
written (ask.refused n) = record { refusal = n; kind = 0; mark = 0; first = 0; second = 0 }

abbrev pub seen_of : Look → Seen
seen_of l = record {
  kind = kind_number l.token.kind;
  mark = flag l.token.escaped;
  cooked = flag (is_some l.units);
  start = l.token.start;
  end = l.token.end;
  faults = l.faults;
  units = unwrap_or l.units 0;
}
