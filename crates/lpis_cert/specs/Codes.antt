-- The codes of faults.
use Rattle.std.specs.Prelude.{ℕ, List, codes}
use Rattle.lpis_cert.specs.declared.fault.CertCode.{CertCode}
use Rattle.lpis_cert.specs.declared.fault.CertCode.TheVariants.{Version, LineForm, Number, BadPlace}
use Rattle.lpis_cert.specs.declared.fault.CertCode.TheVariants.{Truncated, TextAfterEnd, TooMany}

-- the two characters of a code
abbrev pub cert_code_text : CertCode → List ℕ
cert_code_text Version = codes "50"
cert_code_text LineForm = codes "51"
cert_code_text Number = codes "52"
cert_code_text BadPlace = codes "53"
cert_code_text Truncated = codes "54"
cert_code_text TextAfterEnd = codes "55"
cert_code_text TooMany = codes "56"
