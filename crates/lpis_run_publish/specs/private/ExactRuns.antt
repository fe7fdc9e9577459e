-- What a run that asks for blocks has decided.
use Rattle.std.specs.Prelude.{Some, length}
use Rattle.lpis_cert.specs.declared.cert.Cert.{Cert}
use Rattle.lpis_cert.specs.Contents.{cert_text}
use Rattle.lpis_run.specs.Outputs.{Outputs}
use Rattle.lpis_run.specs.Status.{done}
use Rattle.lpis_run_publish.specs.ExactAnswer.{blocks_line}

-- a certificate, and the number of its blocks
abbrev pub filled_with : Cert → Outputs
filled_with c = record {
  cert = Some (cert_text c);
  line = blocks_line (length c.exact);
  status = done;
}
