mod Requests
mod Telling
