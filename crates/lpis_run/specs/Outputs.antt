-- What a run that writes a certificate has decided, and what its two writers got of it.
use Rattle.std.specs.Prelude.{◌≡◌, ◌⊎◌, ℕ, List, None, Option, MatchOption}
use Rattle.std.specs.Option.{option_map}
use Rattle.std.specs.Io.KnownBytes.{Appends, Keeps}
use Rattle.lpis_run.specs.declared.answer.Answer.{Answer as Printed}
use Rattle.lpis_run.specs.declared.failure.Failure.{Failure}
use Rattle.lpis_run.specs.declared.failure.Failure.TheVariants.{Write}
use Rattle.lpis_run.specs.declared.failure.Name.TheVariants.{Cert, Out}
use Rattle.lpis_run.specs.declared.outcome.Outcome.{Outcome}
use Rattle.lpis_run.specs.Streams.{Begins, Known}

-- the certificate's text, if there is one; the line that is printed; the status
pub record Outputs : Type 0 where
  pub cert : Option (List ℕ)
  pub line : List ℕ
  pub status : ℕ

-- those of a certificate's text, if there is one, and of what is printed
abbrev pub outputs_with : Option (List ℕ) → Printed → Outputs
outputs_with cert printed = record {
  cert = cert;
  line = printed.text.items;
  status = printed.status;
}

-- no certificate, and a line with this status
abbrev pub line_alone : List ℕ → ℕ → Outputs
line_alone line status = record { cert = None; line = line; status = status }

abbrev pub outputs_of : Outcome → Outputs
outputs_of o = outputs_with (option_map (λ v. v.items) o.cert) o.printed

-- a writer itself, and what it holds: where it is the same, no write was asked of it
abbrev pub Writer : Type 0 → Type 0
Writer E = E × Known

abbrev pub writer : {E : Type 0} → (E → Known) → E → Writer E
writer contents e = (e, contents e)

-- it got a text where there is one, else nothing, and is the same
abbrev pub Gets : {E : Type 0} → Writer E → Writer E → Option (List ℕ) → Type 0
Gets old new text = MatchOption text (new ≡ old) (Appends old.1 new.1)

-- it got a beginning of a text that there is
abbrev pub GetsPart : {E : Type 0} → Writer E → Writer E → Option (List ℕ) → Type 0
GetsPart old new text = MatchOption text ⊥ (Begins old.1 new.1)

-- a run's two writers, the certificate's and what the other holds: before, and after
pub record Held (E : Type 0) : Type 0 where
  pub cert : Writer E
  pub out : Known

abbrev pub held : {E : Type 0} → Writer E → Known → Held E
held cert out = record { cert = cert; out = out }

-- the run answered with this status, and wrote the certificate, if there is one, and the line
pub record Writes {E : Type 0} (a : Outputs) (status : ℕ) (old new : Held E) : Type 0 where
  pub status_told : status ≡ a.status
  pub certificate : Gets old.cert new.cert a.cert
  pub line : Appends old.out new.out a.line

-- the run broke off: the certificate's file failed, and the line was not written; or the output
-- failed, after all of the certificate
abbrev pub BreaksOff : {E : Type 0} → Outputs → Failure → Held E → Held E → Type 0
BreaksOff a failure old new =
    ((failure ≡ Write Cert) × GetsPart old.cert new.cert a.cert × Keeps old.out new.out)
    ⊎ ((failure ≡ Write Out) × Gets old.cert new.cert a.cert × Begins old.out new.out a.line)
