-- What is handed in, and what is answered where the tableau is not told.
use Rattle.std.specs.Prelude.{List}
use Rattle.dc_affine.specs.declared.atom.Atom.{Atom}
use Rattle.dc_syntax.specs.declared.tree.Proc.{Proc}
use Rattle.dc_lp.specs.Meanings.{Meaning}
use Rattle.dc_cert.specs.declared.certificate.Settings.{Settings}
use Rattle.dc_cert.specs.declared.certificate.Certificate.{Certificate}
use Rattle.dc_session.specs.Session.{Input}
use Rattle.dc_session.specs.Answers.{TellsCertificate}

abbrev pub input : Proc → Proc → List (List Atom) → Settings → Input
input new old cases settings = record { new = new; old = old; cases = cases; settings = settings }

-- the certificate of an analysis, wherever its tableau is left
abbrev pub IsAnswer : Input → Certificate → Type 0
IsAnswer i c = (left : Meaning) × TellsCertificate i left c
