-- Document 01, One scan, step 7, and Terms, and document 02, request 2: what is remembered of earlier scans, and what a
-- forgotten value counts as.
use Rattle.std.specs.Prelude.{Bool, if◌then◌else◌}
use Rattle.setpoints.specs.declared.Readings.{Readings}
use Rattle.outputs.specs.declared.History.{History}
use Rattle.outputs.specs.declared.History.TheVariants.{Nothing, One, Two}
use Rattle.outputs.specs.declared.Past.{Past}

-- when a scan begins; document 02, request 2: "After more than 42 ms the scan is taken, but earlier PV and SP are
-- forgotten first."
unfoldable pub history_before : History → Bool → History
history_before h aftergap = if aftergap then Nothing else h

-- an open scan "isn't remembered; others are": the PV and SP of the last one, and the PV of the one before
abbrev pub remembered : History → Readings → History
remembered Nothing r = One r.pv r.sp
remembered (One pv sp) r = Two r.pv r.sp pv
remembered (Two pv sp before) r = Two r.pv r.sp pv

-- "An open scan forgets earlier PV and SP and isn't remembered; others are."
unfoldable pub history_after : History → Bool → Readings → History
history_after h isopen r = if isopen then Nothing else remembered h r

-- the previous PV and SP and the PV before, in a scan with these readings; "A forgotten value counts as
-- the nearest later one."
abbrev pub recalled : History → Readings → Past
recalled Nothing r = record { pv = r.pv; sp = r.sp; before = r.pv }
recalled (One pv sp) r = record { pv = pv; sp = sp; before = pv }
recalled (Two pv sp before) r = record { pv = pv; sp = sp; before = before }
