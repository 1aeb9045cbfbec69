pub mod SheetSessions
