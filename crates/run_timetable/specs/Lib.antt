pub mod Csv
pub mod Timetable
