-- Settings that tests of sinks give.

use Rattle.ba_cert.specs.declared.head.CertHead.{CertHead}

-- the settings of the tests
abbrev pub settings : CertHead
settings = record { bounds = record { turns = 5; frames = 16 }; conflicts = 200000; sets = 1000 }
