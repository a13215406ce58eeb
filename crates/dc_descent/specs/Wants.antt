-- Want of memory, which has no offset.
use Rattle.dc_descent.specs.declared.fault.Kind.TheVariants as k
use Rattle.dc_descent.specs.declared.fault.Fault.{Fault}

abbrev pub want : Fault
want = record { kind = k.NoMemory; at = 0 }
