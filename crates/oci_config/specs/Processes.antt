-- A process as it was configured.
use Rattle.oci_config.specs.declared.process.Process.{Process}
use Rattle.oci_config.specs.declared.process.ProcessConfig.{ProcessConfig}

-- all of it but what it has written
abbrev pub config_of : Process → ProcessConfig
config_of p = record { «module» = p.module; args = p.args; env = p.env; cap = p.cap }
